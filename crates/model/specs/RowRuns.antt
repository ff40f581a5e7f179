-- Rows as runs of equal ones, and of equal rounds.
use Rattle.std.specs.Prelude.{◌≡◌, ℕ, ◌+◌, ◌<◌, ◌≤◌, Bool, true, false, List, [], ◌∷◌, ◌++◌, length}
use Rattle.std.specs.Prelude.{◌%◌, ◌==◌, if◌then◌else◌}
use Rattle.std.specs.List.{repeat}
use Rattle.model.specs.declared.journals.Outcome.{Outcome}
use Rattle.model.specs.declared.journals.Outcome.TheVariants.{Done, Object, NoRoom, Fault}
use Rattle.model.specs.declared.journals.Row.{Row}
use Rattle.model.specs.declared.turns.Actor.{Actor}
use Rattle.model.specs.declared.turns.Actor.TheVariants.{Thread, Collector}
use Rattle.model.specs.declared.row_runs.RowRun.{RowRun}
use Rattle.model.specs.declared.row_runs.TurnTaken.{TurnTaken}
use Rattle.model.specs.declared.row_runs.TurnTaken.TheVariants.{CollectorDone, CollectorObject, CollectorNoRoom}
use Rattle.model.specs.declared.row_runs.TurnTaken.TheVariants.{CollectorFault, Round}
use Rattle.model.specs.declared.row_runs.TurnTaken.TheVariants.{Done as DoneBy, Object as ObjectBy, NoRoom as NoRoomBy}
use Rattle.model.specs.declared.row_runs.TurnTaken.TheVariants.{Fault as FaultBy}

abbrev pub taken : Actor → Outcome → TurnTaken
taken (Thread t) Done = DoneBy t
taken (Thread t) Object = ObjectBy t
taken (Thread t) NoRoom = NoRoomBy t
taken (Thread t) Fault = FaultBy t
taken Collector Done = CollectorDone
taken Collector Object = CollectorObject
taken Collector NoRoom = CollectorNoRoom
taken Collector Fault = CollectorFault

abbrev pub actor_of : TurnTaken → Actor
actor_of (DoneBy t) = Thread t
actor_of (ObjectBy t) = Thread t
actor_of (NoRoomBy t) = Thread t
actor_of (FaultBy t) = Thread t
actor_of CollectorDone = Collector
actor_of CollectorObject = Collector
actor_of CollectorNoRoom = Collector
actor_of CollectorFault = Collector
actor_of (Round t) = Thread t

abbrev pub outcome_of : TurnTaken → Outcome
outcome_of (DoneBy t) = Done
outcome_of (ObjectBy t) = Object
outcome_of (NoRoomBy t) = NoRoom
outcome_of (FaultBy t) = Fault
outcome_of CollectorDone = Done
outcome_of CollectorObject = Object
outcome_of CollectorNoRoom = NoRoom
outcome_of CollectorFault = Fault
outcome_of (Round t) = Done

-- whether the collector's turn comes after the thread's
abbrev pub is_round : TurnTaken → Bool
is_round (DoneBy t) = false
is_round (ObjectBy t) = false
is_round (NoRoomBy t) = false
is_round (FaultBy t) = false
is_round CollectorDone = false
is_round CollectorObject = false
is_round CollectorNoRoom = false
is_round CollectorFault = false
is_round (Round t) = true

-- ---- the rows of a run

abbrev pub first_row : TurnTaken → ℕ → Row
first_row turn worker = record { actor = actor_of turn; outcome = outcome_of turn; worker = worker }

abbrev pub collector_row : ℕ → Row
collector_row worker = record { actor = Collector; outcome = Done; worker = worker }

-- those that it stands for each time
abbrev pub rows_of : TurnTaken → ℕ → List Row
rows_of turn worker = first_row turn worker ∷ (if is_round turn then collector_row worker ∷ [] else [])

abbrev pub last_row : TurnTaken → ℕ → Row
last_row turn worker = if is_round turn then collector_row worker else first_row turn worker

-- how many there are in all
abbrev pub rows_count : RowRun → ℕ
rows_count run = if is_round run.turn then run.times + run.times else run.times

-- the one after so many of them
abbrev pub row_after : RowRun → ℕ → Row
row_after run passed = if passed % 2 == 0 then first_row run.turn run.worker else last_row run.turn run.worker

-- ---- runs

-- the rows that runs stand for
abbrev pub rows_in : List RowRun → List Row
rows_in [] = []
rows_in (run ∷ runs) = repeat run.times (rows_of run.turn run.worker) ++ rows_in runs

-- each stands for a row at least
abbrev pub AreRuns : List RowRun → Type 0
AreRuns [] = Unit {0}
AreRuns (run ∷ runs) = (1 ≤ run.times) × AreRuns runs

-- so many rows are of the first run, and are not all of it
abbrev pub IsWithin : ℕ → List RowRun → Type 0
IsWithin passed [] = passed ≤ 0
IsWithin passed (run ∷ runs) = passed < rows_count run

-- of the rows of these runs so many were passed, and so many are left
pub record AreLeft (passed count : ℕ) (runs : List RowRun) : Type 0 where
  pub sound : AreRuns runs
  pub inside : IsWithin passed runs
  pub all : passed + count ≡ length (rows_in runs)
