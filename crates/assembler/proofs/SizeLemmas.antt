-- Code grows with each instruction.
use Rattle.std.proofs.Common.{◌≡◌, ℕ, ℤ, suc, ◌+◌, ◌≤◌, ◌<◌, List, [], ◌∷◌, length, map, drop, drop-cons, get_or, arith}
use Rattle.model.specs.declared.trees.TextLine.{TextLine}
use Rattle.model.specs.declared.trees.TextLine.TheVariants.{Label, Instruction}
use Rattle.model.specs.Sizes.{size_at}
use Rattle.model.specs.Texts.Instructions.{Written}
use Rattle.model.specs.Texts.Labels.{pc_following}
use Rattle.model.specs.Texts.Widths.{widened, widened_line}

pub after_grows : (pc : ℕ) (lines : List TextLine) → pc ≤ pc_following pc lines
after_grows pc [] = omega arith
after_grows pc (Label l ∷ lines) = after_grows pc lines
after_grows pc (Instruction i ∷ lines) = omega (arith, after_grows (pc + size_at pc i) lines)

-- code goes at least after an instruction of it
pub goes_past : (narrow : List ℤ) (pc i : ℕ) (lines : List TextLine) (instruction : Written) → i < length lines
    → Instruction instruction ≡ get_or lines i (Instruction instruction)
    → pc + size_at pc (widened narrow instruction) ≤ pc_following pc (map (widened_line narrow) (drop i lines))
goes_past narrow pc i lines instruction h e =
    rw (drop-cons lines i (Instruction instruction), ← e) (after_grows (pc + size_at pc (widened narrow instruction))
    (map (widened_line narrow) (drop (suc i) lines)))
