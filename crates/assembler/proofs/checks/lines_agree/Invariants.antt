use Rattle.std.proofs.Common.{◌≡◌, ℕ, ℤ, List, drop}
use Rattle.std.specs.List.{list_all}
use Rattle.assembler.specs.Checks.{line_agrees}
use Rattle.assembler.proofs.checks.lines_agree.Given as goal

-- the lines so far agree
abbrev pub invariant-loop-line : goal.invariant-loop-line
invariant-loop-line l = (narrow : List ℤ) (f : List ℕ → ℕ) → list_all (line_agrees narrow f) (drop l.line-index l.lines)
    ≡ list_all (line_agrees narrow f) l.lines
