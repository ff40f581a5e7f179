use Rattle.std.proofs.Common.{◌≡◌, map, drop}
use Rattle.exploring.specs.Chains.{chained}
use Rattle.exploring.specs.Keys.{object}
use Rattle.exploring.proofs.pieces.add_objects.Given as goal

-- those that are left complete the chain
abbrev pub invariant-loop-one : goal.invariant-loop-one
invariant-loop-one l = chained l.chains (map (object l.names) (drop l.one-index l.added))
    ≡ chained l.fn.chains (map (object l.names) l.added)
