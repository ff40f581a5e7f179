-- the world has the rows so far
use Rattle.std.proofs.Common.{◌≡◌, ◌++◌, List}
use Rattle.model.specs.declared.journals.Row.{Row}
use Rattle.scheduler.specs.Replaying.{with_all}
use Rattle.scheduler.proofs.replaying.make_rows.Given as goal

abbrev pub invariant-loop-row : goal.invariant-loop-row
invariant-loop-row g l = (done : List Row) × (l.fn.rows ≡ done ++ l.rows) × (l.world ≡ with_all l.fn.world done)
