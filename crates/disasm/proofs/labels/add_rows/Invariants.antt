use Rattle.std.proofs.Common.{◌≡◌, ◌++◌, take}
use Rattle.std.specs.List.{flat_map}
use Rattle.model.specs.Texts.Disassembling.{row_pcs}
use Rattle.disasm.proofs.labels.add_rows.Given as goal

abbrev pub invariant-loop-row : goal.invariant-loop-row
invariant-loop-row l = l.pcs.items ≡ l.initial.pcs.items ++ flat_map row_pcs (take l.row-index l.rows)
