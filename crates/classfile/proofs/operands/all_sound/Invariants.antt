use Rattle.std.proofs.Common.{◌≡◌, drop}
use Rattle.classfile.specs.Reading.Codes.{are_sound}
use Rattle.classfile.proofs.operands.all_sound.Given as goal

abbrev pub invariant-loop-item : goal.invariant-loop-item
invariant-loop-item l = are_sound l.pool (drop l.item-index l.items) ≡ are_sound l.pool l.items
