use Rattle.std.proofs.Common.{◌≡◌, inl, ℕ, Bool, true, false, List, [], Option, Some, None, is_some, refl, ◌∙◌, ap}
use Rattle.model.specs.declared.journals.HeapShape.{HeapShape}
use Rattle.model.specs.declared.journals.Outcome.{Outcome}
use Rattle.model.specs.declared.journals.Outcome.TheVariants.{Done, Object, NoRoom, Fault}
use Rattle.model.specs.ClassListings.{ClassListing}
use Rattle.model.specs.Accounts.{Account, has_room, after_turn}
use Rattle.model.specs.declared.turns.Fault.{Fault as FaultKind}
use Rattle.model.specs.Worlds.{World, next_birth, counted, with_fault}
use Rattle.model.specs.Results.{Effect}
use Rattle.model.specs.Effects.{Choice}
use Rattle.model.specs.Effects.Choice.{NewObject, NoRoom as NoneHasRoom}
use Rattle.model.specs.Turns.{is_fault, faulting, choice_of}
use Rattle.model.specs.Table.Next.{next, asked}
use Rattle.model.specs.Machines.{Machine, outcome_by, outcome_asked, outcome_if}
use Rattle.model.specs.Collector.Places.{Place, root_at, word_at}
use Rattle.model.specs.Collector.Places.Place.{MemoryError, StackError, Slot, FrameEntry, MethodMonitor}
use Rattle.model.specs.Collector.Invariant.{Invariant}
use Rattle.model.specs.Collector.Changes.{Change, Allowed, RoomFor, changed, taken_by, written_by}
use Rattle.model.specs.Collector.Moves.{Lawful, change_of}
use Rattle.model.specs.Collector.Moves.Lawful.{faults, moves}
use Rattle.model.proofs.CollectorLemmas.Moving.{allowed_from_moves, refs_same, threads_same, objects_same}
use Rattle.model.proofs.CollectorLemmas.Turning.{world_keeps, changed_keeps}
use Rattle.model.proofs.CollectorLemmas.Table.Next.{next_lawful}

-- a thread's turn keeps the invariant, whatever its outcome

-- ---- by outcome

-- what `after_turn` does is the change of the outcome
pub after_is : (w : World) (a : Account) (outcome : Outcome) (words : Option ℕ) (v : World) (writes : List ℕ)
    → after_turn a outcome (next_birth w) words writes
    ≡ changed w a (record { after = v; object = taken_by outcome words; writes = written_by outcome writes })
unfolding after_turn changed
after_is w a Done words v writes = refl
after_is w a Object words v writes = refl
after_is w a NoRoom words v writes = refl
after_is w a Fault words v writes = refl

-- the count of rows is no place
pub counted_root : (w : World) (p : Place) (b : ℕ) → root_at (counted w) p ≡ Some b → root_at w p ≡ Some b
unfolding root_at
counted_root w MemoryError b e = e
counted_root w StackError b e = e
counted_root w (Slot s) b e = e
counted_root w (FrameEntry t d j) b e = e
counted_root w (MethodMonitor t d) b e = e

pub counted_word : (w : World) (x k b : ℕ) → word_at (counted w) x k ≡ Some b → word_at w x k ≡ Some b
unfolding word_at
counted_word w x k b e = e

pub counted_keeps : (shape : HeapShape) (w : World) (n : ℕ) (a : Account) → Invariant shape w n a
    → Invariant shape (counted w) n a
counted_keeps shape w n a i = world_keeps shape w (counted w) n a (record {
  roots = λ p b e. inl (counted_root w p b e);
  words = λ x k b e. inl (counted_word w x k b e);
}) i

-- ---- what a lawful effect may do

-- a fault changes no place
fault_allowed : (w : World) (t : ℕ) (fault : FaultKind)
    → Allowed w (record { after = with_fault w t fault; object = None; writes = [] })
fault_allowed w t fault = allowed_from_moves w (record { after = with_fault w t fault; object = None; writes = [] })
    (record {
      counted = refl;
      statics = refs_same _ _;
      threads = threads_same _ w.threads;
      objects = objects_same _ w.objects;
      writes = λ b k. absurd k;
    })

-- the recorded fault of an effect
faulty : (w : World) (e : Effect) → w.fault ≡ None → e.after.fault ≡ w.fault → is_fault e.after ≡ true → ⊥
faulty w e n s f = let k = ap is_some (s ∙ n) in cc

-- it recorded a fault
lawful_fault : (w : World) (object : Option ℕ) (e : Effect) → Lawful w object e → w.fault ≡ None → is_fault e.after
    ≡ true → Allowed w (record { after = e.after; object = None; writes = [] })
lawful_fault w object e (faults t fault s) n f = rw s (fault_allowed w t fault)
lawful_fault w object e (moves s r m) n f = absurd (faulty w e n s f)

-- it recorded none
lawful_done : (w : World) (object : Option ℕ) (e : Effect) → Lawful w object e → is_fault e.after ≡ false
    → Allowed w (change_of object e)
lawful_done w object e (faults t fault s) f = let k = ap (λ (x : Effect). is_fault x.after) s in absurd (cc)
lawful_done w object e (moves s r m) f = allowed_from_moves w (change_of object e) m

-- it made no object
lawful_either : (w : World) (e : Effect) → Lawful w None e → Allowed w (change_of None e)
lawful_either w e (faults t fault s) = rw s (fault_allowed w t fault)
lawful_either w e (moves s r m) = allowed_from_moves w (change_of None e) m

-- ---- a thread's turn

abbrev pub turn_change : List ClassListing → World → ℕ → Option ℕ → Outcome → Change
turn_change program w t words outcome = record {
  after = (next program w t (choice_of program w t outcome)).after;
  object = taken_by outcome words;
  writes = written_by outcome (next program w t (choice_of program w t outcome)).writes;
}

-- what a turn that isn't refused has
pub record Turns (program : List ClassListing) (m : Machine) (t : ℕ) (words : Option ℕ) (outcome : Outcome) : Type 0
  where
    pub allowed : Allowed m.world (turn_change program m.world t words outcome)
    pub room : RoomFor (taken_by outcome words) m.account

-- a fault, which some choice of a thread's turn led to
faulting_by : (program : List ClassListing) (m : Machine) (t : ℕ) (words : Option ℕ) (choice : Choice) → m.world.fault
    ≡ None → is_fault (next program m.world t choice).after ≡ true → (f : Bool)
    → is_fault (next program m.world t NewObject).after ≡ f
    → Allowed m.world (record { after = (next program m.world t (faulting f)).after; object = None; writes = [] })
faulting_by program m t words choice n e true f = lawful_fault m.world _ _ (next_lawful program m.world t NewObject) n f
faulting_by program m t words NewObject n e false f = absurd (cc)
faulting_by program m t words NoneHasRoom n e false f = lawful_fault m.world _ _
    (next_lawful program m.world t NoneHasRoom) n e

fault_turns : (program : List ClassListing) (m : Machine) (t : ℕ) (words : Option ℕ) (choice : Choice) → m.world.fault
    ≡ None → is_fault (next program m.world t choice).after ≡ true → Turns program m t words Fault
fault_turns program m t words choice n e =
    record {
      allowed = faulting_by program m t words choice n e (is_fault (next program m.world t NewObject).after)
          refl;
      room = tt;
    }

unasked_by : (program : List ClassListing) (m : Machine) (t : ℕ) → m.world.fault ≡ None → asked program m.world t ≡ None
    → (f : Bool) → is_fault (next program m.world t NewObject).after ≡ f → Turns program m t None (outcome_by f Done)
unasked_by program m t n e true f = fault_turns program m t None NewObject n f
unasked_by program m t n e false f =
    let l : Lawful m.world None (next program m.world t NewObject) = rw e at (next_lawful program m.world t NewObject)
    in
    record { allowed = lawful_done m.world None _ l f; room = tt }

-- a cell has room
roomy_by : (program : List ClassListing) (m : Machine) (t words : ℕ) → m.world.fault ≡ None → asked program m.world t
    ≡ Some words → has_room m.account words ≡ true → (f : Bool) → is_fault (next program m.world t NewObject).after ≡ f
    → Turns program m t (Some words) (outcome_by f Object)
roomy_by program m t words n e room true f = fault_turns program m t (Some words) NewObject n f
roomy_by program m t words n e room false f =
    let l : Lawful m.world (Some words) (next program m.world t NewObject) = rw e at
    (next_lawful program m.world t NewObject) in
    record { allowed = lawful_done m.world (Some words) _ l f; room = room }

-- none has
full_by : (program : List ClassListing) (m : Machine) (t words : ℕ) → m.world.fault ≡ None → (f : Bool)
    → is_fault (next program m.world t NoneHasRoom).after ≡ f → Turns program m t (Some words) (outcome_by f NoRoom)
full_by program m t words n true f = fault_turns program m t (Some words) NoneHasRoom n f
full_by program m t words n false f = record {
  allowed = lawful_either m.world _
      (next_lawful program m.world t NoneHasRoom);
  room = tt;
}

asked_by : (program : List ClassListing) (m : Machine) (t words : ℕ) → m.world.fault ≡ None → asked program m.world t
    ≡ Some words → (room : Bool) → has_room m.account words ≡ room
    → Turns program m t (Some words) (outcome_asked program m.world t room)
asked_by program m t words n e true r = roomy_by program m t words n e r
    (is_fault (next program m.world t NewObject).after) refl
asked_by program m t words n e false r = full_by program m t words n
    (is_fault (next program m.world t NoneHasRoom).after) refl

pub turns_by : (program : List ClassListing) (m : Machine) (t : ℕ) (words : Option ℕ) → m.world.fault ≡ None
    → asked program m.world t ≡ words → Turns program m t words (outcome_if program m t words)
turns_by program m t None n e = unasked_by program m t n e (is_fault (next program m.world t NewObject).after) refl
turns_by program m t (Some words) n e = asked_by program m t words n e (has_room m.account words) refl

-- a turn that isn't refused keeps the invariant
pub turn_keeps : (program : List ClassListing) (shape : HeapShape) (m : Machine) (t : ℕ) (outcome : Outcome)
    → outcome ≡ outcome_if program m t (asked program m.world t) → m.world.fault ≡ None
    → Invariant shape m.world (next_birth m.world) m.account
    → Invariant shape (counted (next program m.world t (choice_of program m.world t outcome)).after)
    (next_birth (next program m.world t (choice_of program m.world t outcome)).after)
    (after_turn m.account outcome (next_birth m.world) (asked program m.world t)
    (next program m.world t (choice_of program m.world t outcome)).writes)
turn_keeps program shape m t outcome is n i =
    let words = asked program m.world t in
    let c = turn_change program m.world t words outcome in
    let h : Turns program m t words outcome = rw is (turns_by program m t words n refl) in
    rw (after_is m.world m.account outcome words c.after
    (next program m.world t (choice_of program m.world t outcome)).writes)
    (counted_keeps shape c.after (next_birth c.after) (changed m.world m.account c)
    (changed_keeps shape m.world m.account c h.room h.allowed i))
