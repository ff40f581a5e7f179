use Rattle.std.proofs.Common.{◌≡◌, map, drop}
use Rattle.exploring.specs.Chains.{chained}
use Rattle.exploring.specs.Keys.{thread}
use Rattle.exploring.proofs.pieces.add_threads.Given as goal

-- those that are left complete the chain
abbrev pub invariant-loop-one : goal.invariant-loop-one
invariant-loop-one l = chained l.chains (map (thread l.names) (drop l.one-index l.added))
    ≡ chained l.fn.chains (map (thread l.names) l.added)
