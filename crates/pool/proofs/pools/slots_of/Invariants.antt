use Rattle.std.proofs.Common.{◌≡◌, ◌-◌, false, None}
use Rattle.pool.specs.Reading.Pools.{slots_from, slots_after}
use Rattle.pool.proofs.SlotLoops.{with_front}
use Rattle.pool.proofs.pools.slots_of.Given as goal

abbrev pub invariant-loop-number : goal.invariant-loop-number
invariant-loop-number l = with_front l.slots.items (slots_from l.second (l.count - l.number) l.rest)
    ≡ slots_after None (slots_from false (l.count - 1) l.bytes)
