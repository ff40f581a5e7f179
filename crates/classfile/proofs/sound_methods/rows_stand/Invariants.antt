use Rattle.std.proofs.Common.{take}
use Rattle.std.specs.List.{AllByRecursion}
use Rattle.model.specs.ClassFiles.Codes.{RowFits}
use Rattle.classfile.proofs.sound_methods.rows_stand.Given as goal

abbrev pub invariant-loop-row : goal.invariant-loop-row
invariant-loop-row l = AllByRecursion (RowFits l.pool) (take l.row-index l.rows)
