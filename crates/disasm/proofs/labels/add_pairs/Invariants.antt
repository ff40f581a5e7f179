use Rattle.std.proofs.Common.{◌≡◌, ◌++◌, take, map}
use Rattle.disasm.proofs.labels.add_pairs.Given as goal

abbrev pub invariant-loop-pair : goal.invariant-loop-pair
invariant-loop-pair l = l.pcs.items ≡ l.initial.pcs.items ++ map (λ p. p.1) (take l.pair-index l.pairs)
