use Rattle.std.proofs.Common.{◌≡◌, ◌++◌, take, map}
use Rattle.model.specs.Texts.Disassembling.{flags_text}
use Rattle.disasm.proofs.classes.put_flags.Given as goal

abbrev pub invariant-loop-row : goal.invariant-loop-row
invariant-loop-row l = l.out.items ≡ l.initial.out.items
    ++ flags_text (map (λ row. (row.0.now, row.1)) (take l.row-index l.table)) l.flags
