use Rattle.std.proofs.Common.{◌≡◌, drop, map}
use Rattle.std.specs.List.{list_all}
use Rattle.opcodes.specs.Starts.{is_start}
use Rattle.opcodes.proofs.starts.all_pairs_begin.Given as goal

abbrev pub invariant-loop-pair : goal.invariant-loop-pair
invariant-loop-pair l = list_all (is_start l.starts) (map (λ p. p.1) (drop l.pair-index l.pairs))
    ≡ list_all (is_start l.starts) (map (λ p. p.1) l.pairs)
