use Rattle.std.proofs.Common.{take}
use Rattle.resolve.specs.Interfaces.{AreFirst}
use Rattle.resolve.proofs.cycles.are_first.Given as goal

abbrev pub invariant-loop-number : goal.invariant-loop-number
invariant-loop-number l = AreFirst l.index (take l.number l.index)
