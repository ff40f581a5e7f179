use Rattle.std.proofs.Common.{◌≡◌, drop, map}
use Rattle.model.specs.Texts.Labels.{pc_following}
use Rattle.model.specs.Texts.Widths.{widened_line}
use Rattle.assembler.proofs.sizes.code_size.Given as goal

-- the pc so far, and the lines that follow
abbrev pub invariant-loop-line : goal.invariant-loop-line
invariant-loop-line l = pc_following l.pc (map (widened_line l.narrow) (drop l.line-index l.lines))
    ≡ pc_following 0 (map (widened_line l.narrow) l.lines)
