use Rattle.std.proofs.Common.{◌≡◌, ◌++◌, drop}
use Rattle.std.specs.List.{flat_map, AllByRecursion}
use Rattle.model.specs.ClassFiles.Entries.{entry_bytes, EntryFits}
use Rattle.pool.specs.Slots.{entries_in}
use Rattle.pool.proofs.pools.put_entries.Given as goal

abbrev pub invariant-loop-slot : goal.invariant-loop-slot
invariant-loop-slot l =
    AllByRecursion EntryFits (entries_in (drop l.slot-index l.slots))
    × (l.out.items ++ flat_map entry_bytes (entries_in (drop l.slot-index l.slots)) ≡ l.initial.out.items
    ++ flat_map entry_bytes (entries_in l.slots))
