use Rattle.std.proofs.Common.{take}
use Rattle.resolve.specs.Above.{AreAbove}
use Rattle.resolve.proofs.above.above_all_interfaces.Given as goal

abbrev pub invariant-loop-class : goal.invariant-loop-class
invariant-loop-class l = AreAbove l.index (take l.class-index l.class-items) l.above.items
