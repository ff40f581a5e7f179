use Rattle.std.proofs.Common.{take}
use Rattle.std.specs.List.{AllByRecursion}
use Rattle.classfile.specs.Sound.{ClassStands}
use Rattle.classfile.proofs.heads.classes_stand.Given as goal

abbrev pub invariant-loop-number : goal.invariant-loop-number
invariant-loop-number l = AllByRecursion (ClassStands l.pool) (take l.number-index l.numbers)
