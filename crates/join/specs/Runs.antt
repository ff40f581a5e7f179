use Rattle.std.specs.Prelude.{◌≡◌, ℕ, List}
use Rattle.model.specs.declared.journals.HeapShape.{HeapShape}
use Rattle.model.specs.declared.journals.Limits.{Limits}
use Rattle.model.specs.declared.turns.Actor.{Actor}
use Rattle.model.specs.ClassListings.{ClassListing}
use Rattle.model.specs.Limits.{ShapeFits}
use Rattle.model.specs.Machines.{Recorded, Machine, machine_of, opening_machine, row_for, after_turn_by, answer_to}
use Rattle.model.specs.Worlds.{opening_world}
use Rattle.model.specs.Collector.Runs.{Holds, moved_by, machine_after}
use Rattle.join.specs.TurnsOnCells.{CellMachine, moved_on, row_on, answer_on, opening_on, cells_after}
use Rattle.join.specs.Joined.{Joint, Bounded}

-- What is promised of the machine on cells: of the opening and of each turn, and so of every run.

abbrev pub OpeningIsJoined : Type 0
OpeningIsJoined =
    (program : List ClassListing) (shape : HeapShape) →
    ShapeFits shape.small shape.medium shape.large → Joint (opening_on program shape) (opening_machine program shape)

abbrev pub OpeningIsBounded : Type 0
OpeningIsBounded = (program : List ClassListing) → Bounded (opening_world program)

-- what an actor's turn leaves, where the machines were joined and the invariant of three colours holds
abbrev pub EachTurn : (CellMachine → Machine → Type 0) → Type 0
EachTurn P =
    (program : List ClassListing) (shape : HeapShape) (limits : Limits) →
    (on : CellMachine) (m : Machine) (actor : Actor) →
    Holds shape m → Bounded m.world → Joint on m →
    P (moved_on program shape limits on actor) (moved_by program shape limits m actor)

-- what holds of both after every list of turns, for every program, accepted or not, every heap shape that fits and all
-- limits
abbrev pub EachRun : (List ClassListing → Limits → CellMachine → Machine → Type 0) → Type 0
EachRun P =
    (program : List ClassListing) (shape : HeapShape) (limits : Limits) (actors : List Actor) →
    ShapeFits shape.small shape.medium shape.large →
    P program limits (cells_after program shape limits actors) (machine_after program shape limits actors)

-- what a world's turn leaves and tells, where a world is its program and its journal
pub record TurnIsShown (v : Recorded) (on : CellMachine) (actor : Actor) (worker : ℕ) : Type 0 where
  pub joint :
      Joint (moved_on v.program v.journal.shape v.journal.limits on actor) (machine_of (after_turn_by v actor worker))
  pub bounded : Bounded (machine_of (after_turn_by v actor worker)).world
  pub row : row_on v.program v.journal.limits on actor worker ≡ row_for v actor worker
  pub answer : answer_on v.program v.journal.shape v.journal.limits on actor ≡ answer_to v actor worker

abbrev pub EachTurnIsShown : Type 0
EachTurnIsShown =
    (v : Recorded) (on : CellMachine) (actor : Actor) (worker : ℕ) →
    Holds v.journal.shape (machine_of v) → Bounded (machine_of v).world → Joint on (machine_of v) →
    TurnIsShown v on actor worker
