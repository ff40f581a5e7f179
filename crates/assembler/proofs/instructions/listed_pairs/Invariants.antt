use Rattle.std.proofs.Common.{◌≡◌, ◌++◌, drop, map}
use Rattle.assembler.specs.Checks.{pc_in}
use Rattle.assembler.proofs.instructions.listed_pairs.Given as goal

-- the pairs so far, and those that follow
abbrev pub invariant-loop-key : goal.invariant-loop-key
invariant-loop-key l =
    l.listed.items ++ map (λ p. (p.0, pc_in l.pcs p.1)) (drop l.key-index l.pairs)
    ≡ map (λ p. (p.0, pc_in l.pcs p.1)) l.pairs
