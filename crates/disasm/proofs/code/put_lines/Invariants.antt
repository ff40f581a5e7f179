use Rattle.std.proofs.Common.{◌≡◌, ◌++◌, drop}
use Rattle.model.specs.Texts.Disassembling.{lines_from}
use Rattle.disasm.proofs.code.put_lines.Given as goal

-- the lines so far, and those that follow
abbrev pub invariant-loop-placed : goal.invariant-loop-placed
invariant-loop-placed l =
    l.out.items ++ lines_from l.labels l.end (drop l.placed-index l.instructions) ≡
    l.initial.out.items ++ lines_from l.labels 0 l.instructions
