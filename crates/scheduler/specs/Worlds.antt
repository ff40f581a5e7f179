use Rattle.std.specs.Prelude.{◌≡◌, ℕ, length}
use Rattle.model.specs.Collector.Runs.{Holds}
use Rattle.model.specs.Journals.{JournalValue}
use Rattle.model.specs.Machines.{Recorded, machine_of}
use Rattle.model.specs.Observers.{after_last}
use Rattle.join.specs.Joined.{Bounded, Joint}
use Rattle.instructions.specs.Loaded.{Loaded}
use Rattle.scheduler.specs.OnCells.{cells_of}
use Rattle.scheduler.specs.Replaying.{IsMade}

-- what a running state and a journal are to a caller: its program, and the journal
abbrev pub recorded : Loaded → JournalValue → Recorded
recorded state journal = record { program = state.program; journal = journal }

-- the state's machine on cells is the one for which its program and the journal stand, joined to their ideal machine,
-- which meets the invariant of three colours; the thread to look at first is the one after the last; a run of the
-- program made the journal
pub record IsOf (state : Loaded) (journal : JournalValue) (next : ℕ) : Type 0 where
  pub limits_are : state.limits ≡ journal.limits
  pub shape_is : state.shape ≡ journal.shape
  pub rows_are : state.machine.world.rows ≡ length journal.rows
  pub cells_are : state.machine ≡ cells_of (recorded state journal)
  pub joint : Joint state.machine (machine_of (recorded state journal))
  pub holds : Holds journal.shape (machine_of (recorded state journal))
  pub bounded : Bounded (machine_of (recorded state journal)).world
  pub next_is : next ≡ after_last 0 journal.rows
  pub made : IsMade (recorded state journal)
