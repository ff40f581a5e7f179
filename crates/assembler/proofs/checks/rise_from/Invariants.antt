use Rattle.std.proofs.Common.{◌≡◌, ℕ, List, drop, map}
use Rattle.model.specs.Texts.Assembling.{rise_from}
use Rattle.assembler.proofs.checks.rise_from.Given as goal

-- the keys so far rise
abbrev pub invariant-loop-key : goal.invariant-loop-key
invariant-loop-key l = (f : List ℕ → ℕ) → rise_from l.before (map (λ p. (p.0, f p.1)) (drop l.key-index l.pairs))
    ≡ rise_from l.first (map (λ p. (p.0, f p.1)) l.pairs)
