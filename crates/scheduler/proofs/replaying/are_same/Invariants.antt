-- so far they have the same rows, and as many follow
use Rattle.std.proofs.Common.{◌≡◌, ◌++◌, List, length}
use Rattle.model.specs.declared.journals.Row.{Row}
use Rattle.scheduler.proofs.replaying.are_same.Given as goal

abbrev pub invariant-loop-row : goal.invariant-loop-row
invariant-loop-row l = (done : List Row) × (l.fn.made ≡ done ++ l.made) × (l.fn.wanted ≡ done ++ l.wanted)
    × (length l.made ≡ length l.wanted)
