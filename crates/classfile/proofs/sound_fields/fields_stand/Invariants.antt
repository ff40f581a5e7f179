use Rattle.std.proofs.Common.{take}
use Rattle.std.specs.List.{AllByRecursion}
use Rattle.classfile.specs.Sound.{FieldStands}
use Rattle.classfile.proofs.sound_fields.fields_stand.Given as goal

abbrev pub invariant-loop-field : goal.invariant-loop-field
invariant-loop-field l = AllByRecursion (FieldStands l.pool l.class) (take l.field-index l.fields)
