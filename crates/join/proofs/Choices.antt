use Rattle.std.proofs.Common.{◌≡◌, ℕ, Bool, true, false, List, Option, Some, None, is_some, refl, sym, ◌∙◌, ap, subst}
use Rattle.model.specs.declared.journals.HeapShape.{HeapShape}
use Rattle.model.specs.declared.journals.Limits.{Limits}
use Rattle.model.specs.declared.journals.Outcome.{Outcome}
use Rattle.model.specs.declared.journals.Outcome.TheVariants.{Done, Object, NoRoom as FoundNoRoom}
use Rattle.model.specs.declared.turns.Actor.TheVariants.{Thread}
use Rattle.model.specs.declared.turns.Fault.{Fault}
use Rattle.model.specs.ClassListings.{ClassListing}
use Rattle.model.specs.Accounts.{Account, has_room, new_object, shade_all, after_turn}
use Rattle.model.specs.Worlds.{World, next_birth, counted}
use Rattle.model.specs.Results.{Effect}
use Rattle.model.specs.Effects.{Choice, effect_of}
use Rattle.model.specs.Effects.Choice.{NewObject, NoRoom}
use Rattle.model.specs.Completions.{Completion, asks}
use Rattle.model.specs.Turns.{refusal, is_fault, choice_of}
use Rattle.model.specs.Table.Next.{completion, next, asked}
use Rattle.model.specs.Machines.{Machine, outcome_by, outcome_if}
use Rattle.model.specs.Collector.Choices.{Chooses}
use Rattle.model.specs.Collector.Invariant.{Tidy}
use Rattle.model.specs.Collector.Moves.{object_of}
use Rattle.model.specs.Collector.Runs.{moved_by}
use Rattle.model.proofs.CollectorLemmas.FindingRoom.{chooses_by_room}
use Rattle.model.proofs.CollectorLemmas.Rooms.{room_is_listed}

-- a thread's turn in the ideal machine, told by what its instruction comes to and without outcomes: as on cells, what
-- was written is shaded, and a fault leaves the account

abbrev pub by_room : Bool → Choice
by_room true = NewObject
by_room false = NoRoom

abbrev pub counted_in : Machine → Machine
counted_in m = record { world = counted m.world; account = m.account }

-- the choice of a turn that asks for so many words, or for none
abbrev pub chosen : Account → Option ℕ → Choice
chosen a None = NewObject
chosen a (Some words) = by_room (has_room a words)

abbrev pub ideal_unless : Account → ℕ → Option ℕ → Effect → Option (Fault × ℕ) → Machine
ideal_unless a birth object e None = record {
  world = e.after;
  account = shade_all (new_object a birth object) e.writes;
}
ideal_unless a birth object e (Some fault) = record { world = e.after; account = a }

abbrev pub ideal_carried : Account → ℕ → Option ℕ → Effect → Machine
ideal_carried a birth object e = ideal_unless a birth object e e.after.fault

abbrev pub ideal_by : List ClassListing → Machine → ℕ → Completion → Choice → Machine
ideal_by program m t c choice = ideal_carried m.account (next_birth m.world) (object_of choice (asks c))
    (effect_of program m.world t choice c)

unfoldable pub ideal_turned : List ClassListing → Machine → ℕ → Completion → Machine
ideal_turned program m t c = ideal_by program m t c (chosen m.account (asks c))

-- ---- so told it is the turn of the ideal machine

module _ (program : List ClassListing) (shape : HeapShape) (limits : Limits) (m : Machine) (t : ℕ) where
  abbrev effect : Choice → Effect
  effect choice = next program m.world t choice

  abbrev turned : Outcome → Machine
  turned outcome = record {
    world = counted (effect (choice_of program m.world t outcome)).after;
    account = after_turn m.account outcome (next_birth m.world) (asked program m.world t)
        (effect (choice_of program m.world t outcome)).writes;
  }

  moved_is : refusal program limits m.world (Thread t) ≡ None → moved_by program shape limits m (Thread t)
      ≡ turned (outcome_if program m t (asked program m.world t))
  unfolding moved_by
  moved_is e = rw (e, e) refl

  abbrev carried : Choice → Machine
  carried choice = counted_in (ideal_carried m.account (next_birth m.world) (object_of choice (asked program m.world t))
      (effect choice))

  -- the account, and with it the whole, where the world is that of the choice
  module _ (choice : Choice) (outcome : Outcome) (is : choice_of program m.world t outcome ≡ choice) where
    abbrev AccountIs : Option ℕ → Type 0
    AccountIs words = (writes : List ℕ) → after_turn m.account outcome (next_birth m.world) words writes
        ≡ shade_all (new_object m.account (next_birth m.world) (object_of choice words)) writes

    by_fault : AccountIs (asked program m.world t) → (o : Option (Fault × ℕ)) → (effect choice).after.fault ≡ o
        → (turned (outcome_by (is_fault (effect choice).after) outcome)).world ≡ counted (effect choice).after
        → turned (outcome_by (is_fault (effect choice).after) outcome)
        ≡ counted_in (ideal_unless m.account (next_birth m.world) (object_of choice (asked program m.world t))
        (effect choice) o)
    unfolding after_turn
    by_fault done None e k =
        ap (λ (b : Bool). turned (outcome_by b outcome)) (ap is_some e)
        ∙ ap (λ (c : Choice). let x : Machine = record {
          world = counted (effect c).after;
          account = after_turn m.account outcome (next_birth m.world)
              (asked program m.world t) (effect c).writes;
        } in x) is
        ∙ ap (λ (a : Account). let x : Machine = record { world = counted (effect choice).after; account = a }
        in x) (done (effect choice).writes)
    by_fault done (Some fault) e k =
        let f : is_fault (effect choice).after ≡ true = ap is_some e in
        ap (λ (b : Bool). turned (outcome_by b outcome)) f
        ∙ ap (λ (w : World). let x : Machine = record { world = w; account = m.account }
        in x) (subst (λ (b : Bool). (turned (outcome_by b outcome)).world
        ≡ counted (effect choice).after) f k)

    by_world : AccountIs (asked program m.world t) → outcome_if program m t (asked program m.world t)
        ≡ outcome_by (is_fault (effect choice).after) outcome → moved_by program shape limits m (Thread t)
        ≡ turned (outcome_if program m t (asked program m.world t)) → (moved_by program shape limits m (Thread t)).world
        ≡ counted (effect choice).after → moved_by program shape limits m (Thread t) ≡ carried choice
    by_world done o q k =
        let r = q ∙ ap turned o in
        r ∙ by_fault done (effect choice).after.fault refl (sym (ap (λ (x : Machine). x.world) r) ∙ k)

  module _ (tidy : Tidy shape (next_birth m.world) m.account) (e : refusal program limits m.world (Thread t) ≡ None)
    where
      chooses : Chooses program shape limits m t
      chooses = chooses_by_room program shape limits (next_birth m.world) m t tidy e

      -- the choice of the collector's theorem is this one
      same_choice : (words : Option ℕ) → asked program m.world t ≡ words → chooses.choice ≡ chosen m.account words
      same_choice None s = go chooses.choice refl
        where
          go : (c : Choice) → chooses.choice ≡ c → c ≡ NewObject
          go NewObject k = refl
          go NoRoom k = (let l = (chooses.by_room.0 k).asks in absurd (cc))
      same_choice (Some words) s = go (has_room m.account words) refl chooses.choice refl
        where
          go : (room : Bool) → has_room m.account words ≡ room → (c : Choice) → chooses.choice ≡ c → c ≡ by_room room
          go true r NewObject k = refl
          go true r NoRoom k =
              let l = chooses.by_room.0 k in
              let a = l.asks in
              let same : l.words ≡ words = cc in
              absurd (l.none (rw same ((room_is_listed shape (next_birth m.world) m.account words tidy).1 r)))
          go false r NoRoom k = refl
          go false r NewObject k =
              let lacks = chooses.by_room.1 (record {
                words = words;
                asks = s;
                none = λ x. (let y = (room_is_listed shape (next_birth m.world) m.account words tidy).0 x in cc);
              }) in
              absurd (cc)

      world_is : (words : Option ℕ) → asked program m.world t ≡ words
          → (moved_by program shape limits m (Thread t)).world
          ≡ counted (effect (chosen m.account words)).after
      world_is words s = chooses.goes ∙ ap (λ (c : Choice). counted (effect c).after) (same_choice words s)

      account_if : (words : ℕ) (room : Bool) → has_room m.account words ≡ room → asked program m.world t ≡ Some words
          → (moved_by program shape limits m (Thread t)).world ≡ counted (effect (by_room room)).after
          → moved_by program shape limits m (Thread t) ≡ carried (by_room room)
      unfolding after_turn
      account_if words true r s k = by_world NewObject Object refl (rw s (λ writes. refl)) (rw (s, r) refl)
          (moved_is e) k
      account_if words false r s k = by_world NoRoom FoundNoRoom refl (λ writes. refl) (rw (s, r) refl) (moved_is e) k

      account_is : (words : Option ℕ) → asked program m.world t ≡ words → moved_by program shape limits m (Thread t)
          ≡ carried (chosen m.account words)
      unfolding after_turn
      account_is None s = by_world NewObject Done refl (rw s (λ writes. refl)) (rw s refl) (moved_is e)
          (world_is None s)
      account_is (Some words) s = account_if words (has_room m.account words) refl s (world_is (Some words) s)

      pub turn_is : moved_by program shape limits m (Thread t)
          ≡ counted_in (ideal_turned program m t (completion program m.world t))
      unfolding ideal_turned next
      turn_is = account_is (asked program m.world t) refl
