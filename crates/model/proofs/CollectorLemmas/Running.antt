use Rattle.std.proofs.Common.{◌≡◌, ℕ, List, [], ◌∷◌, Option, Some, None, ◌≤◌, ◌+◌, refl, ◌∙◌}
use Rattle.model.specs.declared.journals.HeapShape.{HeapShape}
use Rattle.model.specs.declared.journals.Limits.{Limits}
use Rattle.model.specs.declared.journals.Row.{Row}
use Rattle.model.specs.declared.turns.Actor.{Actor}
use Rattle.model.specs.declared.turns.Actor.TheVariants.{Thread, Collector}
use Rattle.model.specs.declared.turns.Fault.{Fault}
use Rattle.model.specs.declared.turns.Turn.{Turn}
use Rattle.model.specs.ClassListings.{ClassListing}
use Rattle.model.specs.Worlds.{World, next_birth}
use Rattle.model.specs.Turns.{refusal, refusal_after}
use Rattle.model.specs.Machines.{Recorded, Machine, machine_of, machine_of-noted, opening_machine, outcome_of}
use Rattle.model.specs.Machines.{row_unless_refused, with_row, row_for, after_turn_by, after_turns, opened}
use Rattle.model.specs.Collector.Table.{collected}
use Rattle.model.specs.Collector.Runs.{advance_if, moved_by, moved_by_all, machine_after, Holds}
use Rattle.model.proofs.CollectorLemmas.Collecting.{collected_keeps}
use Rattle.model.proofs.CollectorLemmas.Opening.{opening_keeps}
use Rattle.model.proofs.CollectorLemmas.Outcomes.{counted_keeps, turn_keeps}

-- every list of turns keeps the invariant

-- a turn that isn't refused follows no fault
pub unfaulted : (program : List ClassListing) (limits : Limits) (w : World) (t : ℕ)
    → refusal program limits w (Thread t) ≡ None → w.fault ≡ None
unfolding refusal
unfaulted program limits w t e = go w.fault refl e
  where
    go : (o : Option (Fault × ℕ)) → w.fault ≡ o → refusal_after program limits w (Thread t) o ≡ None → w.fault ≡ None
    go None s r = s
    go (Some fault) s r = absurd (cc)

pub row_keeps : (program : List ClassListing) (shape : HeapShape) (limits : Limits) (m : Machine) (actor : Actor)
    (worker : ℕ) (o : Option Turn) → refusal program limits m.world actor ≡ o → Holds shape m
    → Holds shape (advance_if program shape limits m (row_unless_refused program m actor worker o))
unfolding Holds
row_keeps program shape limits m actor worker (Some refused) e i = i
row_keeps program shape limits m (Thread t) worker None e i = rw e
    (turn_keeps program shape m t (outcome_of program m (Thread t)) refl (unfaulted program limits m.world t e) i)
row_keeps program shape limits m Collector worker None e i = rw e (counted_keeps shape m.world (next_birth m.world)
    (collected shape m.world m.account) (collected_keeps shape m.world (next_birth m.world) m.account i))

pub moved_keeps : (program : List ClassListing) (shape : HeapShape) (limits : Limits) (m : Machine) (actor : Actor)
    → Holds shape m → Holds shape (moved_by program shape limits m actor)
unfolding moved_by
moved_keeps program shape limits m actor i = row_keeps program shape limits m actor 0
    (refusal program limits m.world actor) refl i

pub all_keep : (program : List ClassListing) (shape : HeapShape) (limits : Limits) (m : Machine) (actors : List Actor)
    → Holds shape m → Holds shape (moved_by_all program shape limits m actors)
all_keep program shape limits m [] i = i
all_keep program shape limits m (actor ∷ actors) i = all_keep program shape limits
    (moved_by program shape limits m actor) actors (moved_keeps program shape limits m actor i)

pub opening_holds : (program : List ClassListing) (shape : HeapShape) → 2 ≤ shape.small + shape.medium + shape.large
    → Holds shape (opening_machine program shape)
unfolding Holds
opening_holds program shape two = opening_keeps program shape two

-- ---- the journal's machine is the one that goes on turn by turn

turn_is : (v : Recorded) (actor : Actor) (worker : ℕ) (o : Option Turn)
    → machine_of (with_row v (row_unless_refused v.program (machine_of v) actor worker o))
    ≡ advance_if v.program v.journal.shape v.journal.limits (machine_of v) (row_unless_refused v.program (machine_of v)
    actor 0 o)
turn_is v actor worker (Some refused) = refl
turn_is v actor worker None = machine_of-noted v
    (record { actor = actor; outcome = outcome_of v.program (machine_of v) actor; worker = worker })

-- whoever makes the turn
pub machine_of-turn : (v : Recorded) (actor : Actor) (worker : ℕ) → machine_of (after_turn_by v actor worker)
    ≡ moved_by v.program v.journal.shape v.journal.limits (machine_of v) actor
unfolding after_turn_by moved_by
machine_of-turn v actor worker = turn_is v actor worker (refusal v.program v.journal.limits (machine_of v).world actor)

-- what a turn doesn't change
record Stays (v after : Recorded) : Type 0 where
  program : after.program ≡ v.program
  shape : after.journal.shape ≡ v.journal.shape
  limits : after.journal.limits ≡ v.journal.limits

row_stays : (v : Recorded) (row : Option Row) → Stays v (with_row v row)
row_stays v None = record { program = refl; shape = refl; limits = refl }
row_stays v (Some row) = record { program = refl; shape = refl; limits = refl }

turn_stays : (v : Recorded) (actor : Actor) (worker : ℕ) → Stays v (after_turn_by v actor worker)
unfolding after_turn_by
turn_stays v actor worker = row_stays v (row_for v actor worker)

same_run : (p q : List ClassListing) (s t : HeapShape) (l k : Limits) (m n : Machine) → p ≡ q → s ≡ t → l ≡ k → m ≡ n
    → (actors : List Actor) → moved_by_all p s l m actors ≡ moved_by_all q t k n actors
same_run p q s t l k m n d e f g actors = rw (d, e, f, g) refl

pub machine_of-turns : (v : Recorded) (actors : List Actor) → machine_of (after_turns v actors)
    ≡ moved_by_all v.program v.journal.shape v.journal.limits (machine_of v) actors
machine_of-turns v [] = refl
machine_of-turns v (actor ∷ actors) =
    let after = after_turn_by v actor 0 in
    let stays = turn_stays v actor 0 in
    machine_of-turns after actors
    ∙ same_run after.program v.program after.journal.shape v.journal.shape after.journal.limits v.journal.limits
    (machine_of after) (moved_by v.program v.journal.shape v.journal.limits (machine_of v) actor) stays.program
    stays.shape stays.limits (machine_of-turn v actor 0) actors

pub machine_after-is : (program : List ClassListing) (shape : HeapShape) (limits : Limits) (actors : List Actor)
    → machine_after program shape limits actors ≡ moved_by_all program shape limits (opening_machine program shape)
    actors
unfolding machine_after machine_of
machine_after-is program shape limits actors = machine_of-turns (opened program shape limits) actors

-- ---- so every list of turns keeps the invariant

-- a turn of a world
pub recorded_keeps : (v : Recorded) (actor : Actor) (worker : ℕ) → Holds v.journal.shape (machine_of v)
    → Holds v.journal.shape (machine_of (after_turn_by v actor worker))
recorded_keeps v actor worker i = rw (machine_of-turn v actor worker)
    (moved_keeps v.program v.journal.shape v.journal.limits (machine_of v) actor i)

pub machine_holds : (program : List ClassListing) (shape : HeapShape) (limits : Limits) (actors : List Actor)
    → 2 ≤ shape.small + shape.medium + shape.large → Holds shape (machine_after program shape limits actors)
machine_holds program shape limits actors two = rw (machine_after-is program shape limits actors)
    (all_keep program shape limits (opening_machine program shape) actors (opening_holds program shape two))
