use Rattle.std.proofs.Common.{◌≡◌, ℤ, List, ◌++◌, drop}
use Rattle.model.specs.Texts.Widths.{used_in}
use Rattle.assembler.proofs.ldc_numbers.add_lines.Given as goal

-- with those of the lines that are left they are all
abbrev pub invariant-loop-line : goal.invariant-loop-line
invariant-loop-line l = (zs : List ℤ) → l.initial.used.items ++ (used_in l.lines ++ zs) ≡ l.used.items
    ++ (used_in (drop l.line-index l.lines) ++ zs)
