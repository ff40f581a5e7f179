-- the run has followed the rows so far
use Rattle.std.proofs.Common.{◌≡◌, ◌++◌}
use Rattle.comparison.specs.Checking.{reference_of}
use Rattle.scheduler.specs.Replaying.{with_all}
use Rattle.comparison.proofs.references.made_again.Given as goal

abbrev pub invariant-loop-row : goal.invariant-loop-row
invariant-loop-row l = (l.world.journal.rows ≡ l.yielded ++ l.row-iterator)
    × (l.run ≡ reference_of (with_all l.world l.yielded))
