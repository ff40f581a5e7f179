-- Where a journal's rows differ from those of its turns.
use Rattle.std.specs.Prelude.{◌≡◌, ◌≢◌, ℕ, ◌+◌, take, Some, None, slice_get, false}
use Rattle.model.specs.declared.journals.Row.{Row}
use Rattle.model.specs.Accepted.Refusals.{refusal_of}
use Rattle.model.specs.Machines.{Recorded, row_for}
use Rattle.model.specs.Worlds.{opening_fits}
use Rattle.scheduler.specs.declared.replaying.ReplayError.{ReplayError}
use Rattle.scheduler.specs.declared.replaying.ReplayError.TheVariants.{Row as AtRow, Memory, Frames}
use Rattle.scheduler.specs.Replaying.{AreRun, front}

-- the row of this number, from 1, is the first one that isn't the row of its turn, which comes to another outcome or is
-- refused
pub record DiffersFirst (v : Recorded) (number : ℕ) : Type 0 where
  pub before : ℕ
  pub number_is : number ≡ before + 1
  pub row : Row
  pub there : slice_get v.journal.rows before ≡ Some row
  pub made : AreRun v.program v.journal (take before v.journal.rows)
  pub differs : row_for (front v before) row.actor row.worker ≢ Some row

-- why a program and a journal give no world: a row differs, or the program's opening frames don't fit a thread. Or want
-- of memory
abbrev pub Excuses : Recorded → ReplayError → Type 0
Excuses v (AtRow number) = DiffersFirst v number
Excuses v Frames = (opening_fits v.program ≡ false) × (refusal_of v.program ≡ None)
Excuses v Memory = Unit {0}
