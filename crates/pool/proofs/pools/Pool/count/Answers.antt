use Rattle.std.proofs.Common.{arith}
use Rattle.pool.proofs.PoolLemmas.{count_is}
use Rattle.pool.proofs.pools.Pool.count.Goals as goal

pub overflow_cast-result : goal.overflow_cast-result
overflow_cast-result c =
    let count = count_is c.self.inside.slots.items c.self.invariant.0 in
    let small = c.self.invariant.1.0 in
    record { fits = rw (c.as_slice.ensures.value) (omega (arith, count, small)) }

pub returns : goal.returns
returns c = rw (c.as_slice.ensures.value, ← c.self.view_is) (count_is c.self.inside.slots.items c.self.invariant.0)
