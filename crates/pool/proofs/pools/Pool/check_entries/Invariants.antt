use Rattle.std.proofs.Common.{◌≡◌, drop}
use Rattle.model.specs.ClassFiles.References.{first_fault}
use Rattle.pool.specs.Slots.{entries_in}
use Rattle.pool.proofs.pools.Pool.check_entries.Given as goal

abbrev pub invariant-loop-slot : goal.invariant-loop-slot
invariant-loop-slot l = first_fault l.self (entries_in l.slots)
    ≡ first_fault l.self (entries_in (drop l.slot-index l.slots))
