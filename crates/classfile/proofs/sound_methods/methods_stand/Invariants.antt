use Rattle.std.proofs.Common.{take}
use Rattle.std.specs.List.{AllByRecursion}
use Rattle.classfile.specs.Sound.{MethodStands}
use Rattle.classfile.proofs.sound_methods.methods_stand.Given as goal

abbrev pub invariant-loop-method : goal.invariant-loop-method
invariant-loop-method l = AllByRecursion (MethodStands l.pool l.class) (take l.method-index l.methods)
