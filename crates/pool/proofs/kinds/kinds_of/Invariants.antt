use Rattle.std.proofs.Common.{◌≡◌, map, ◌++◌, drop}
use Rattle.pool.specs.Kinds as definition
use Rattle.pool.proofs.kinds.kinds_of.Given as goal

abbrev pub invariant-loop-slot : goal.invariant-loop-slot
invariant-loop-slot l = map definition.slot_kind l.slots ≡ l.kinds.items
    ++ map definition.slot_kind (drop l.slot-index l.slots)
