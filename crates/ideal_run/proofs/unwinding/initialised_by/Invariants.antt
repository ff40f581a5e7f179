use Rattle.std.proofs.Common.{◌≡◌, drop, reverse}
use Rattle.model.specs.Unwinding.{initialised_by}
use Rattle.ideal_run.proofs.unwinding.initialised_by.Given as goal

-- those of the frames from n on
abbrev pub invariant-loop-n : goal.invariant-loop-n
invariant-loop-n l = l.classes.items ≡ initialised_by l.program (reverse (drop l.n l.left))
