-- A throwable lands, in the parts as on cells.
use Rattle.std.proofs.Common.{◌≡◌, ◌≢◌, ◌<◌, ℕ, zero, suc, ◌+◌, ◌-◌, ◌==◌, List, [], ◌∷◌, ◌++◌, length, reverse, true}
use Rattle.std.proofs.Common.{false, Option, Some, None, Result, refl, ap, sym, subst, ◌∙◌, arith}
use Rattle.std.specs.Prelude.{is_some, nat_le, slice_get, slice_index_or, slice_set, if◌then◌else◌}
use Rattle.std.specs.Option.{IfSome, option_map}
use Rattle.std.proofs.lemmas.Option.{slice_get-get_or}
use Rattle.std.proofs.lemmas.Bool.{le-leb}
use Rattle.std.proofs.lemmas.Bool.Decides.{Decides-eqb}
use Rattle.std.proofs.lemmas.List.{length-reverse, length-take-le, reverse-reverse, take_all}
use Rattle.model.specs.declared.turns.Exception.{Exception}
use Rattle.model.specs.declared.turns.Exception.TheVariants as exception
use Rattle.model.specs.declared.turns.ClassState.TheVariants.{Failed}
use Rattle.model.specs.declared.turns.Fault.{Fault}
use Rattle.model.specs.declared.turns.Fault.TheVariants.{StackFull}
use Rattle.model.specs.declared.journals.Outcome.{Outcome}
use Rattle.model.specs.declared.journals.Outcome.TheVariants.{Done, Object as GotObject, NoRoom, Fault as FaultOutcome}
use Rattle.model.specs.declared.values.Value.{Value}
use Rattle.model.specs.ClassListings.{ClassListing}
use Rattle.model.specs.Accounts.{Account, has_room as room_in, take_cell}
use Rattle.model.specs.Classes.Builtin.{builtin_classes}
use Rattle.model.specs.Classes.Exceptions.{exception_class}
use Rattle.model.specs.Classes.Types.{element_of}
use Rattle.model.specs.Completions.{raises}
use Rattle.model.specs.Completions.Completion.{Creates, Raises, Throws as ThrowsOf}
use Rattle.model.specs.Frames.{Frame, callers, running_frame, with_running}
use Rattle.model.specs.Objects.{class_at, class_if}
use Rattle.model.specs.Machines.{outcome_by}
use Rattle.model.specs.Results.{Effect, faulted}
use Rattle.model.specs.Turns.{is_fault}
use Rattle.model.specs.Unwinding.{failing, handling, landed, thrown, unwound, way_of}
use Rattle.model.specs.Worlds.{World, Object, frames_at, plain_object, with_thread}
use Rattle.model.specs.Worlds.Thread.{Live as LiveThread, Ended}
use Rattle.cells.specs.Objects.{StoredObject, object_if}
use Rattle.join.specs.TurnsOnCells.{CellMachine, birth_in, carried_on, created_at, faulted_on, raised_at, shade_cells}
use Rattle.join.specs.TurnsOnCells.{turned_on}
use Rattle.join.proofs.Lists.{get-set_same}
use Rattle.resolve.specs.Numbers.{all_classes}
use Rattle.instructions.specs.declared.acting.Turned.{Turned}
use Rattle.instructions.specs.declared.kinds.Kind.{Kind}
use Rattle.instructions.specs.declared.kinds.Course.{Course}
use Rattle.instructions.specs.declared.kinds.Course.TheVariants.{Live, Threw}
use Rattle.instructions.specs.declared.machines.Machine.{Machine}
use Rattle.instructions.specs.declared.unwinding.Target.{Target}
use Rattle.instructions.specs.declared.unwinding.Target.TheVariants as target
use Rattle.instructions.specs.Acting.{Lands, Scene, Throws, shown, thrown_on, reported, turned}
use Rattle.instructions.specs.HeapMonitors.{all_released_in}
use Rattle.instructions.specs.Heaps.{HeapValue, created, exception_kind, exception_place, kind_held, made}
use Rattle.instructions.specs.Heaps.{memory_error_kind, own_class, reference_taken, shaded}
use Rattle.instructions.specs.HeapsAgree.{own_kind}
use Rattle.instructions.specs.Leaving.{HasLeft, innermost, monitors_of, world_left}
use Rattle.instructions.specs.Shown.{contents_shown, kind_name, kind_name_if, object_shown, objects_shown}
use Rattle.instructions.specs.Throwing.{IsThrown, is_full_at, kept, way_as}
use Rattle.instructions.specs.Throwing.IsThrown.{thrown as thrown_class}
use Rattle.instructions.proofs.LeavingLemmas.{running_last, without-shown}
use Rattle.instructions.proofs.MonitoringLemmas.{MonitorsAlone, all_released-alone}
use Rattle.instructions.proofs.Scenes.{frames_shown, set_between, thread_set}
use Rattle.instructions.proofs.ShownLemmas.{class-shown, exception_name, own_shown, shown-get, shown-set, words-shown}

-- ---- the class of what a reference leads to

class_stored : (program : List ClassListing) (o : Option (Option (StoredObject Kind)))
    → class_if (option_map (object_shown program) o) ≡ kind_name_if program (option_map (λ o. o.kind) (object_if o))
class_stored program None = refl
class_stored program (Some None) = refl
class_stored program (Some (Some o)) = class-shown program o.kind o.words

pub class_held : (program : List ClassListing) (h : HeapValue) (reference : ℕ)
    → class_if (slice_get (objects_shown program h.objects) reference) ≡ kind_name_if program (kind_held h reference)
class_held program h zero = refl
class_held program h (suc cell) = ap class_if (shown-get program h.objects cell)
    ∙ class_stored program (slice_get h.objects cell)

-- what is raised but for StackOverflowError asks for a cell
pub raises_is : (e : Exception) → e ≢ exception.StackOverflow → raises e ≡ Raises e
raises_is exception.Arithmetic other = refl
raises_is exception.NullPointer other = refl
raises_is exception.ClassCast other = refl
raises_is exception.NegativeArraySize other = refl
raises_is exception.ArrayStore other = refl
raises_is exception.IllegalMonitorState other = refl
raises_is exception.ArrayIndexOutOfBounds other = refl
raises_is exception.IllegalThreadState other = refl
raises_is exception.StackOverflow other = absurd (other refl)
raises_is exception.ExceptionInInitializer other = refl
raises_is exception.NoClassDefFound other = refl

-- ---- the machine's own throwables

own-listing : (program : List ClassListing) (place : ℕ) → slice_get (all_classes program) (length program + place)
    ≡ slice_get builtin_classes place
own-listing program place = following program (length program + place) refl
  where
    following : (cs : List ClassListing) (n : ℕ) → n ≡ length cs + place → slice_get (cs ++ builtin_classes) n
        ≡ slice_get builtin_classes place
    following [] n e = let at : n ≡ place = omega (arith, e) in ap (slice_get builtin_classes) at
    following (c ∷ cs) zero e = absurd (omega (arith, e))
    following (c ∷ cs) (suc n) e = following cs n (omega (arith, e))

own-thrown : (program : List ClassListing) (place : ℕ) (listing : ClassListing) → slice_get builtin_classes place
    ≡ Some listing
    → element_of listing.name ≡ None → IsThrown program (own_class program place)
own-thrown program place listing at plain = thrown_class (length program + place) listing (own-listing program place
    ∙ at) plain

memory-thrown : (program : List ClassListing) → IsThrown program (memory_error_kind program)
unfolding builtin_classes
memory-thrown program = own-thrown program 16 _ refl refl

pub exception-thrown : (program : List ClassListing) (e : Exception) → IsThrown program (exception_kind program e)
unfolding builtin_classes
exception-thrown program exception.Arithmetic = own-thrown program 5 _ refl refl
exception-thrown program exception.NullPointer = own-thrown program 6 _ refl refl
exception-thrown program exception.ClassCast = own-thrown program 7 _ refl refl
exception-thrown program exception.NegativeArraySize = own-thrown program 8 _ refl refl
exception-thrown program exception.ArrayStore = own-thrown program 9 _ refl refl
exception-thrown program exception.IllegalMonitorState = own-thrown program 10 _ refl refl
exception-thrown program exception.ArrayIndexOutOfBounds = own-thrown program 12 _ refl refl
exception-thrown program exception.IllegalThreadState = own-thrown program 14 _ refl refl
exception-thrown program exception.StackOverflow = own-thrown program 17 _ refl refl
exception-thrown program exception.ExceptionInInitializer = own-thrown program 19 _ refl refl
exception-thrown program exception.NoClassDefFound = own-thrown program 20 _ refl refl

-- of a heap that tells how many classes the program has
pub memory_kind-thrown : (program : List ClassListing) (classes : ℕ) → classes ≡ length program
    → IsThrown program (own_kind classes 16)
memory_kind-thrown program classes is = subst (λ n. IsThrown program (own_kind n 16)) (sym is) (memory-thrown program)

pub stack_kind-thrown : (program : List ClassListing) (classes : ℕ) → classes ≡ length program
    → IsThrown program (own_kind classes 17)
stack_kind-thrown program classes is = subst (λ n. IsThrown program (own_kind n 17)) (sym is)
    (exception-thrown program exception.StackOverflow)

-- ---- a throwable lands

module _ (program : List ClassListing) (scene : Scene) (m : Machine) (here : length scene.before ≡ m.thread)
    (reference : ℕ) (kind : Kind)
    (target : Target) (held : kind_held m.heap reference ≡ Some kind)
    (way : way_of program (kind_name program kind) (reverse m.frames) ≡ way_as m.frames target) where
  abbrev world : World
  world = (shown program scene m Live).world

  class_is : class_at world reference ≡ kind_name program kind
  class_is = class_held program m.heap reference ∙ ap (kind_name_if program) held

  way_is : way_of program (class_at world reference) (reverse (frames_at world m.thread)) ≡ way_as m.frames target
  way_is =
      ap (λ class. way_of program class (reverse (frames_at world m.thread))) class_is
      ∙ ap (λ fs. way_of program (kind_name program kind) (reverse fs)) (frames_shown program scene m here) ∙ way

  -- the world once these frames are left
  abbrev left_with : List Frame → World
  left_with left = world_left program m.heap world m.thread Failed left

  thrown_is : (before : World) → thrown program before world m.thread reference
      ≡ landed before (left_with (way_as m.frames target).left) m.thread reference (kind_name program kind)
      (way_as m.frames target).landing
  thrown_is before =
      ap (unwound program before world m.thread reference (class_at world reference)) way_is
      ∙ ap (λ class. unwound program before world m.thread reference class (way_as m.frames target)) class_is
      ∙ ap (λ w. landed before w m.thread reference (kind_name program kind) (way_as m.frames target).landing)
      (without-shown program m.heap world m.thread (way_as m.frames target).left refl)

-- the last of some frames changes
last-changed : (frames : List Frame) (f : Frame) → 0 < length frames → callers frames ++ f ∷ [] ≡ with_running frames f
last-changed frames f some =
    let fewer : length (callers frames) ≡ length frames - 1 = length-take-le (length frames - 1) frames (omega arith) in
    sym (ap (λ fs. slice_set fs (length frames - 1) f) (running_last frames some)
    ∙ ap (λ n. slice_set (callers frames ++ running_frame frames ∷ []) n f) (sym fewer)
    ∙ set_between (callers frames) [] (running_frame frames) f)

has_room : (n : ℕ) → (n == 0) ≡ false → nat_le 1 n ≡ true
has_room zero e = cc
has_room (suc n) e = le-leb 1 (suc n) (omega arith)

module _ (program : List ClassListing) (scene : Scene) (m : Machine) (here : length scene.before ≡ m.thread)
    (reference : ℕ) (kind : Kind)
    (held : kind_held m.heap reference ≡ Some kind) where
  -- the world once the innermost so many frames are left, and this one runs in place of the next
  abbrev goes_on : ℕ → Frame → World
  goes_on left g =
      with_thread (world_left program m.heap (shown program scene m Live).world m.thread Failed
      (innermost left m.frames)) m.thread
      (LiveThread (reverse (reverse (callers (kept left m.frames))) ++ g ∷ []))

  abbrev handled_as : ℕ → ℕ → Effect
  handled_as left handler = record {
    after = goes_on left
        (handling reference handler (running_frame (kept left m.frames)));
    writes = reference ∷ [];
  }

  -- where the handler has no room
  pub full_reported : (target : Target) → way_of program (kind_name program kind) (reverse m.frames)
      ≡ way_as m.frames target
      → is_full_at m.frames target ≡ true → (before : World) → thrown program before (shown program scene m Live).world
      m.thread reference ≡ faulted before m.thread StackFull
  full_reported (target.Handler left handler) way full before =
      let none : (running_frame (kept left m.frames)).room
      ≡ 0 = (Decides-eqb (running_frame (kept left m.frames)).room 0).0 full in
      thrown_is program scene m here reference kind (target.Handler left handler) held way before
      ∙ ap (λ room. if nat_le 1 room then handled_as left handler else faulted before m.thread StackFull) none
  full_reported (target.Initializer left) way full before = cc
  full_reported target.Nowhere way full before = cc

  module _ (x : CellMachine) (mid after : Machine) (left : ℕ) (within : left < length m.frames)
      (has_left : HasLeft program Failed (innermost left m.frames) m mid) (stay : mid.frames ≡ kept left m.frames)
      (slots : after.slots ≡ mid.slots) (states : after.states.items ≡ mid.states.items)
      (output : after.output.items ≡ mid.output.items) where
    abbrev stays : List Frame
    stays = kept left m.frames

    abbrev given_back : HeapValue
    given_back = all_released_in m.heap m.thread (monitors_of (innermost left m.frames))

    alone : MonitorsAlone program m.heap given_back
    alone = all_released-alone program m.heap m.thread (monitors_of (innermost left m.frames))

    some : 0 < length stays
    some = let long = length-take-le (length m.frames - left) m.frames (omega arith) in omega (arith, within, long)

    live_shown : (g : Frame) (writes : List ℕ) → after.frames ≡ with_running mid.frames g → after.heap.objects
        ≡ mid.heap.objects
        → after.heap.account ≡ shade_cells mid.heap.account writes → after.heap.births ≡ mid.heap.births
        → (let y : CellMachine = record {
          world = goes_on left g;
          account = shade_cells m.heap.account writes;
          births = m.heap.births;
        } in y)
        ≡ shown program scene after Live
    live_shown g writes frames objects account births =
        rw (
          frames,
          stay,
          slots,
          states,
          output,
          objects,
          account,
          births,
          has_left.slots,
          has_left.states,
          ap (λ (v : _). v.items) has_left.output,
          has_left.heap,
          alone.account,
          alone.births,
          reverse-reverse (callers stays),
          last-changed stays g some,
          thread_set scene m.thread here (LiveThread m.frames) (LiveThread (with_running stays g)),
        ) refl

    pub handler_lands : (handler : ℕ) → way_of program (kind_name program kind) (reverse m.frames)
        ≡ way_as m.frames (target.Handler left handler)
        → is_full_at m.frames (target.Handler left handler) ≡ false
        → after.frames ≡ with_running mid.frames (handling reference handler (running_frame mid.frames)) → after.heap
        ≡ shaded mid.heap (Some reference)
        → carried_on x m.heap.account m.heap.births (thrown program x.world (shown program scene m Live).world m.thread
        reference) ≡ shown program scene after Live
    handler_lands handler way room frames heap =
        let f = running_frame stays in
        let has : nat_le 1 f.room ≡ true = has_room f.room room in
        ap (carried_on x m.heap.account m.heap.births)
        (thrown_is program scene m here reference kind (target.Handler left handler) held way x.world
        ∙ ap (λ b. if b then handled_as left handler else faulted x.world m.thread StackFull) has)
        ∙ live_shown (handling reference handler f) (reference ∷ []) (frames
        ∙ ap (λ fs. with_running mid.frames (handling reference handler (running_frame fs))) stay)
        (ap (λ (h : HeapValue). h.objects) heap) (ap (λ (h : HeapValue). h.account) heap)
        (ap (λ (h : HeapValue). h.births) heap)

    pub initializer_lands : way_of program (kind_name program kind) (reverse m.frames)
        ≡ way_as m.frames (target.Initializer left)
        → after.frames ≡ with_running mid.frames (failing (running_frame mid.frames)) → after.heap ≡ mid.heap
        → carried_on x m.heap.account m.heap.births (thrown program x.world (shown program scene m Live).world m.thread
        reference) ≡ shown program scene after Live
    initializer_lands way frames heap =
        ap (carried_on x m.heap.account m.heap.births) (thrown_is program scene m here reference kind
        (target.Initializer left) held way x.world)
        ∙ live_shown (failing (running_frame stays)) [] (frames
        ∙ ap (λ fs. with_running mid.frames (failing (running_frame fs))) stay)
        (ap (λ (h : HeapValue). h.objects) heap) (ap (λ (h : HeapValue). h.account) heap)
        (ap (λ (h : HeapValue). h.births) heap)

  -- where no frame handles it
  pub nowhere_lands : (x : CellMachine) (after : Machine) → way_of program (kind_name program kind) (reverse m.frames)
      ≡ way_as m.frames target.Nowhere
      → HasLeft program Failed (innermost (length m.frames) m.frames) m after
      → carried_on x m.heap.account m.heap.births (thrown program x.world (shown program scene m Live).world m.thread
      reference) ≡ shown program scene after (Threw (Some kind))
  nowhere_lands x after way has_left =
      let all : innermost (length m.frames) m.frames
      ≡ reverse m.frames = let turned = length-reverse m.frames in take_all (length m.frames) (reverse m.frames)
      (omega (arith, turned)) in
      let alone = all_released-alone program m.heap m.thread (monitors_of (innermost (length m.frames) m.frames)) in
      ap (carried_on x m.heap.account m.heap.births) (thrown_is program scene m here reference kind target.Nowhere held
      way x.world)
      ∙ rw (
        ← all,
        has_left.slots,
        has_left.states,
        ap (λ (v : _). v.items) has_left.output,
        has_left.heap,
        alone.account,
        alone.births,
        thread_set scene m.thread here (LiveThread m.frames) (Ended (Some (kind_name program kind))),
      ) refl

-- the object of a cell that was taken
new_held : (h : HeapValue) (kind : Kind) (cell : ℕ × Account) → cell.0 < length h.objects
    → kind_held (created h kind [] (Some cell)) (suc cell.0) ≡ Some kind
new_held h kind cell within =
    ap (λ o. option_map (λ (o : StoredObject Kind). o.kind) (object_if o))
    (get-set_same h.objects cell.0 (Some (made kind [])) (slice_index_or h.objects cell.0 None)
    (slice_get-get_or h.objects cell.0 None within))

pub created_held : (h : HeapValue) (kind : Kind) (o : Option (ℕ × Account)) (reference : ℕ)
    → IfSome o (λ taken. taken.0 < length h.objects)
    → Some reference ≡ reference_taken o → kind_held (created h kind [] o) reference ≡ Some kind
created_held h kind None reference within is = cc
created_held h kind (Some cell) reference within is =
    let at : reference ≡ suc cell.0 = cc in rw at (new_held h kind cell within)

pub created_none : (h : HeapValue) (kind : Kind) (words : List Value) (o : Option (ℕ × Account))
    → None ≡ reference_taken o → created h kind words o ≡ h
created_none h kind words None is = refl
created_none h kind words (Some cell) is = cc

-- ---- what a turn tells of it

-- the machine with a new object in its heap
abbrev with_heap : Machine → HeapValue → Machine
with_heap m heap = record m { heap = heap }

-- nothing is at fault where a throwable has landed
abbrev landed_reported : List ClassListing → CellMachine → Outcome → CellMachine × Outcome
landed_reported program y outcome = (y, outcome_by (is_fault y.world) outcome)

module _ (program : List ClassListing) (scene : Scene) (m : Machine) (here : length scene.before ≡ m.thread) where
  abbrev x : CellMachine
  x = shown program scene m Live

  -- what is there is thrown
  pub throw_reported : (after : Machine) (reference : ℕ) (course : Course) (outcome : Outcome)
      → Lands program m after reference course
      → (shown program scene after course, outcome) ≡ thrown_on program x m.thread reference outcome
  throw_reported after reference course outcome lands = sym (ap (λ y. landed_reported program y outcome)
      (lands scene here x))

  pub throw_full_reported : (reference : ℕ) (kind : Kind) (target : Target) (outcome : Outcome)
      → kind_held m.heap reference ≡ Some kind
      → way_of program (kind_name program kind) (reverse m.frames) ≡ way_as m.frames target → is_full_at m.frames target
      ≡ true
      → (faulted_on x m.thread StackFull, FaultOutcome) ≡ thrown_on program x m.thread reference outcome
  throw_full_reported reference kind target outcome held way full =
      sym (ap (λ e. landed_reported program (carried_on x x.account x.births e) outcome)
      (full_reported program scene m here reference kind held target way full x.world))

  -- a new exception in its cell, as the code has it and on cells
  new_shown : (e : Exception) (c : ℕ)
      → objects_shown program (slice_set m.heap.objects c (Some (made (exception_kind program e) [])))
      ≡ slice_set x.world.objects (suc c) (plain_object (exception_class e))
  new_shown e c =
      shown-set program m.heap.objects c (Some (made (exception_kind program e) []))
      ∙ ap (slice_set x.world.objects (suc c)) (own_shown program (exception_place e) (exception_class e)
      (exception_name program e))

  abbrev reported_as : Option (ℕ × Account) → Outcome
  reported_as o = if is_some o then GotObject else NoRoom

  raised_as : (e : Exception) (o : Option (ℕ × Account)) → take_cell m.heap.account 0 ≡ o
      → turned program x m.thread (Raises e) ≡ landed_reported program (raised_at program x x.world m.thread e o)
      (reported_as o)
  unfolding turned_on
  raised_as e o is = ap (λ o. landed_reported program (raised_at program x x.world m.thread e o) (reported_as o)) is

  abbrev new_heap : Exception → ℕ × Account → HeapValue
  new_heap e cell = created m.heap (exception_kind program e) [] (Some cell)

  -- the effect of what is thrown in the world with the new exception
  raised_on : (e : Exception) (cell : ℕ × Account) → raised_at program x x.world m.thread e (Some cell)
      ≡ carried_on x (new_heap e cell).account (new_heap e cell).births
      (thrown program x.world (shown program scene (with_heap m (new_heap e cell)) Live).world m.thread
      (suc cell.0))
  raised_on e cell =
      ap (λ (objects : List Object). carried_on x (birth_in cell.1 cell.0 x.births) (x.births + 1)
      (thrown program x.world (let w : World = record x.world { objects = objects } in w) m.thread (suc cell.0)))
      (sym (new_shown e cell.0))

  pub raise_reported : (e : Exception) (kind : Kind) (heap : HeapValue) (after : Machine) (reference : ℕ)
      (course : Course) (o : Option (ℕ × Account))
      → take_cell m.heap.account 0 ≡ o → kind ≡ exception_kind program e → heap ≡ created m.heap kind [] o
      → Some reference ≡ reference_taken o
      → Lands program (with_heap m heap) after reference course
      → (shown program scene after course, GotObject) ≡ turned program x m.thread (Raises e)
  raise_reported e kind heap after reference course None taken kind_is heap_is reference_is lands = cc
  raise_reported e kind heap after reference course (Some cell) taken kind_is heap_is reference_is lands =
      let at : reference ≡ suc cell.0 = cc in
      let is : heap ≡ new_heap e cell = heap_is ∙ ap (λ k. created m.heap k [] (Some cell)) kind_is in
      let there : Lands program (with_heap m (new_heap e cell)) after (suc cell.0) course =
      subst (λ r. Lands program (with_heap m (new_heap e cell)) after r course) at
      (subst (λ h. Lands program (with_heap m h) after reference course) is lands) in
      sym (raised_as e (Some cell) taken ∙ ap (λ y. landed_reported program y GotObject) (raised_on e cell
      ∙ there scene here x))

  pub raise_full_reported : (e : Exception) (kind : Kind) (target : Target) (o : Option (ℕ × Account))
      → take_cell m.heap.account 0 ≡ o → is_some o ≡ true
      → IfSome o (λ taken. taken.0 < length m.heap.objects) → kind ≡ exception_kind program e
      → way_of program (kind_name program kind) (reverse m.frames) ≡ way_as m.frames target → is_full_at m.frames target
      ≡ true
      → (faulted_on x m.thread StackFull, FaultOutcome) ≡ turned program x m.thread (Raises e)
  raise_full_reported e kind target None taken some within kind_is way full = cc
  raise_full_reported e kind target (Some cell) taken some within kind_is way full =
      let there : way_of program (kind_name program (exception_kind program e)) (reverse m.frames)
      ≡ way_as m.frames target = subst (λ k. way_of program (kind_name program k) (reverse m.frames)
      ≡ way_as m.frames target) kind_is way in
      sym (raised_as e (Some cell) taken
      ∙ ap (λ y. landed_reported program y GotObject) (raised_on e cell
      ∙ ap (carried_on x (new_heap e cell).account (new_heap e cell).births)
      (full_reported program scene (with_heap m (new_heap e cell)) here (suc cell.0) (exception_kind program e)
      (new_held m.heap (exception_kind program e) cell within) target there full x.world)))

  -- a throwable that is there
  pub throws_there : (reference : ℕ) → thrown_on program x m.thread reference Done
      ≡ turned program x m.thread (ThrowsOf reference)
  unfolding turned_on
  throws_there reference = refl

  -- StackOverflowError is there
  pub overflow_raised : (after : Machine) (result : Result Turned Fault) → Throws program m after result 2 Done
      → reported x m.thread (shown program scene after) result
      ≡ turned program x m.thread (raises exception.StackOverflow)
  unfolding turned_on
  overflow_raised after result throws = throws scene here

  pub raise_none_reported : (e : Exception) (after : Machine) (result : Result Turned Fault) → room_in m.heap.account 0
      ≡ false → e ≢ exception.StackOverflow
      → Throws program m after result 1 NoRoom → reported x m.thread (shown program scene after) result
      ≡ turned program x m.thread (raises e)
  raise_none_reported e after result none other throws = by (take_cell m.heap.account 0) refl
    where
      by : (o : Option (ℕ × Account)) → take_cell m.heap.account 0 ≡ o
          → reported x m.thread (shown program scene after) result ≡ turned program x m.thread (raises e)
      by None is = throws scene here ∙ sym (ap (turned program x m.thread) (raises_is e other) ∙ raised_as e None is)
      by (Some cell) is = let some : room_in m.heap.account 0 ≡ true = ap is_some is in cc

  -- an object for which no free cell has room
  pub new_none : (next taken : ℕ) (kind : Kind) (words : List Value) (o : Option (ℕ × Account)) (after : Machine)
      (result : Result Turned Fault)
      → take_cell m.heap.account (length words) ≡ o → None ≡ reference_taken o → Throws program m after result 1 NoRoom
      → reported x m.thread (shown program scene after) result
      ≡ turned program x m.thread (Creates next taken (contents_shown program kind words))
  unfolding turned_on
  new_none next taken kind words (Some cell) after result is none throws = cc
  new_none next taken kind words None after result is none throws =
      throws scene here ∙ sym
      (ap (λ o. landed_reported program (created_at program x m.thread next taken
      (contents_shown program kind words) o) (reported_as o))
      (ap (take_cell m.heap.account) (words-shown program kind words) ∙ is))
