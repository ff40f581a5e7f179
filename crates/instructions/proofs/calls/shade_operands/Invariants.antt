use Rattle.std.proofs.Common.{◌≡◌, drop}
use Rattle.model.specs.Frames.{running_frame}
use Rattle.model.specs.Locals.{arguments_on}
use Rattle.model.specs.Values.{births_of}
use Rattle.instructions.specs.Heaps.{all_shaded}
use Rattle.instructions.proofs.calls.shade_operands.Given as goal

-- the other operands are shaded next
abbrev pub invariant-loop-below : goal.invariant-loop-below
invariant-loop-below l =
    all_shaded l.heap (births_of (drop l.below (arguments_on l.count (running_frame l.frames).stack)))
    ≡ all_shaded l.fn.heap (births_of (arguments_on l.fn.count (running_frame l.frames).stack))
