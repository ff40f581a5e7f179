use Rattle.std.proofs.Common.{◌≡◌, drop}
use Rattle.model.specs.Table.Switches.{target_of_key}
use Rattle.values.proofs.switches.lookup_target.Given as goal

-- the keys that were passed are others
abbrev pub invariant-loop-wanted : goal.invariant-loop-wanted
invariant-loop-wanted l = target_of_key (drop l.wanted-index l.wanted-items) l.lookup.default l.key
    ≡ target_of_key l.wanted-items l.lookup.default l.key
