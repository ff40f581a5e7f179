use Rattle.std.proofs.Common.{take}
use Rattle.disasm.specs.Marks.{Marks}
use Rattle.disasm.proofs.labels.marks.Given as goal

abbrev pub invariant-loop-pc : goal.invariant-loop-pc
invariant-loop-pc l = Marks l.table.items (take l.pc-index l.pcs)
