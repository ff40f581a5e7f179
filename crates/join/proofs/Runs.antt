use Rattle.std.proofs.Common.{◌≡◌, ℕ, List, [], ◌∷◌, Option, Some, None, refl, sym, ◌∙◌, ap, subst}
use Rattle.model.specs.declared.journals.HeapShape.{HeapShape}
use Rattle.model.specs.declared.journals.Limits.{Limits}
use Rattle.model.specs.declared.turns.Actor.{Actor}
use Rattle.model.specs.ClassListings.{ClassListing}
use Rattle.model.specs.Limits.{ShapeFits}
use Rattle.model.specs.declared.turns.Turn.{Turn}
use Rattle.model.specs.Worlds.{World}
use Rattle.model.specs.Turns.{refusal}
use Rattle.model.specs.Machines.{Recorded, Machine, machine_of, opening_machine, after_turn_by, answer_unless_refused}
use Rattle.model.specs.Machines.{answer_to, reported_of}
use Rattle.model.specs.Collector.Runs.{Holds, moved_by, moved_by_all, machine_after}
use Rattle.model.proofs.CollectorLemmas.Running.{moved_keeps, opening_holds, machine_after-is, machine_of-turn}
use Rattle.join.specs.Runs.{EachRun, EachTurnIsShown}
use Rattle.join.specs.Joined.{Joint, Bounded}
use Rattle.join.specs.ReadBack.{ReadsBack}
use Rattle.join.specs.TurnsOnCells.{CellMachine, moved_on, moved_on_by_all, opening_on, cells_after, answer_if_on}
use Rattle.join.proofs.Joining.{turn_joins, turn_bounds}
use Rattle.join.proofs.Opening.{opening_joins, opening_bounded}
use Rattle.join.proofs.ReadingBack.{reads_back}

-- every list of turns keeps the join: each turn does, beside the invariant of three colours and the bound

-- what each turn keeps
record Keeps (shape : HeapShape) (on : CellMachine) (m : Machine) : Type 0 where
  holds : Holds shape m
  bound : Bounded m.world
  joint : Joint on m

turn_keeps : (program : List ClassListing) (shape : HeapShape) (limits : Limits) (on : CellMachine) (m : Machine)
    (actor : Actor) → Keeps shape on m
    → Keeps shape (moved_on program shape limits on actor) (moved_by program shape limits m actor)
turn_keeps program shape limits on m actor k = record {
  holds = moved_keeps program shape limits m actor k.holds;
  bound = turn_bounds program shape limits on m actor k.holds k.bound k.joint;
  joint = turn_joins program shape limits on m actor k.holds k.bound k.joint;
}

all_keep : (program : List ClassListing) (shape : HeapShape) (limits : Limits) (on : CellMachine) (m : Machine)
    (actors : List Actor) → Keeps shape on m → Keeps shape (moved_on_by_all program shape limits on actors)
    (moved_by_all program shape limits m actors)
all_keep program shape limits on m [] k = k
all_keep program shape limits on m (actor ∷ actors) k =
    all_keep program shape limits (moved_on program shape limits on actor) (moved_by program shape limits m actor)
    actors (turn_keeps program shape limits on m actor k)

run_keeps : (program : List ClassListing) (shape : HeapShape) (limits : Limits) (actors : List Actor)
    → ShapeFits shape.small shape.medium shape.large
    → Keeps shape (cells_after program shape limits actors) (machine_after program shape limits actors)
unfolding cells_after
run_keeps program shape limits actors fits =
    rw (machine_after-is program shape limits actors)
    (all_keep program shape limits (opening_on program shape) (opening_machine program shape) actors
    (record {
      holds = opening_holds program shape fits.0;
      bound = opening_bounded program;
      joint = opening_joins program shape fits;
    }))

-- ---- what is promised of every run

pub run_joins : EachRun (λ program limits on m. Joint on m)
run_joins program shape limits actors fits = (run_keeps program shape limits actors fits).joint

pub run_reads_back : EachRun ReadsBack
unfolding Holds
run_reads_back program shape limits actors fits =
    let k = run_keeps program shape limits actors fits in
    reads_back program shape limits (cells_after program shape limits actors)
    (machine_after program shape limits actors) k.holds k.bound k.joint

-- ---- a world's turn

-- what is reported is told of the journal's machine after the turn
answer_same : (v : Recorded) (on : CellMachine) (actor : Actor) (worker : ℕ) (o : Option Turn) → on.world.fault
    ≡ (machine_of (after_turn_by v actor worker)).world.fault → answer_if_on on o
    ≡ answer_unless_refused (after_turn_by v actor worker) o
answer_same v on actor worker (Some refused) e = refl
answer_same v on actor worker None e = ap reported_of e

pub turn_is_shown : EachTurnIsShown
unfolding answer_to
turn_is_shown v on actor worker i b j =
    let program = v.program in
    let shape = v.journal.shape in
    let limits = v.journal.limits in
    let k = turn_keeps program shape limits on (machine_of v) actor (record { holds = i; bound = b; joint = j }) in
    let is = machine_of-turn v actor worker in
    let joint = subst (Joint (moved_on program shape limits on actor)) (sym is) k.joint in
    let reads = reads_back program shape limits on (machine_of v) i b j in
    record {
      joint = joint;
      bounded = rw is k.bound;
      row = reads.row actor worker;
      answer =
          ap (answer_if_on (moved_on program shape limits on actor)) (reads.refusals actor)
          ∙ answer_same v (moved_on program shape limits on actor) actor worker
          (refusal program limits (machine_of v).world actor) (ap (λ (w : World). w.fault) joint.joined.world);
    }
