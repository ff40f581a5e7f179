use Rattle.std.proofs.Common.{◌≡◌, ◌++◌, take}
use Rattle.std.specs.List.{flat_map}
use Rattle.model.specs.ClassFiles.Numbers.{u2}
use Rattle.classfile.proofs.heads.put_classes.Given as goal

abbrev pub invariant-loop-class : goal.invariant-loop-class
invariant-loop-class l = l.out.items ≡ l.initial.out.items ++ flat_map u2 (take l.class-index l.classes)
