use Rattle.std.proofs.lemmas.Result.{err_from_is_err_and}
use Rattle.std.proofs.Common.{◌-◌, None, false, arith}
use Rattle.pool.specs.Reading.Pools.{slots_from, slots_after}
use Rattle.pool.proofs.SlotLoops.{goes_on, skips, ends, is_done}
use Rattle.pool.proofs.PoolLemmas.{slots_of_read, slots_fit}
use Rattle.pool.proofs.pools.slots_of.Goals as goal

pub loop-number-preserved-then-second : goal.loop-number-preserved-then-second
loop-number-preserved-then-second c =
    rw c.in_ok-push-2.ensures.items (skips c.loop-number.slots.items c.args.count c.loop-number.number
    c.loop-number.rest.now (slots_after None (slots_from false (c.args.count - 1) c.args.bytes.now))
    c.loop-number-test.true (rw c.if-second.true at c.loop-number.invariant))

pub returns-in_err-entry-clause-gives : goal.returns-in_err-entry-clause-gives
returns-in_err-entry-clause-gives c =
    let p = err_from_is_err_and c.from_residual-in_err-entry.result c.from_residual-in_err-entry.ensures.1 in
    rw (p.1, p.2) (ends c.in_err-entry.field-0.0 c.loop-number.slots.items c.args.count c.loop-number.number
    c.loop-number.rest.now (slots_after None (slots_from false (c.args.count - 1) c.args.bytes.now))
    c.loop-number-test.true c.in_err-entry.ensures (rw c.if-second.false at c.loop-number.invariant))

pub loop-number-preserved : goal.loop-number-preserved
loop-number-preserved c =
    rw (c.in_ok-push-3.ensures.items, c.is_wide-second.ensures) (goes_on c.loop-number.slots.items c.args.count
    c.loop-number.number c.loop-number.rest.now c.in_ok-entry.entry c.in_ok-entry.after.now
    (slots_after None (slots_from false (c.args.count - 1) c.args.bytes.now)) c.loop-number-test.true
    c.in_ok-entry.ensures (rw c.if-second.false at c.loop-number.invariant))

pub returns-clause-gives : goal.returns-clause-gives
returns-clause-gives c = is_done c.loop-number.slots.items c.loop-number.second c.args.count c.loop-number.number
    c.loop-number.rest.now (slots_after None (slots_from false (c.args.count - 1) c.args.bytes.now))
    c.loop-number-test.false c.loop-number.invariant

pub returns-clause-slots : goal.returns-clause-slots
returns-clause-slots c = slots_of_read c.args.count c.args.bytes.now c.loop-number.slots.items c.loop-number.rest.now
    (λ i. omega (arith, c.type_inv.bytes i))
    (is_done c.loop-number.slots.items c.loop-number.second c.args.count c.loop-number.number c.loop-number.rest.now
    (slots_after None (slots_from false (c.args.count - 1) c.args.bytes.now)) c.loop-number-test.false
    c.loop-number.invariant)

pub returns-clause-fits : goal.returns-clause-fits
returns-clause-fits c = slots_fit c.args.count c.args.bytes.now c.loop-number.slots.items c.loop-number.rest.now
    (omega arith) c.requires (λ i. omega (arith, c.type_inv.bytes i))
    (is_done c.loop-number.slots.items c.loop-number.second c.args.count c.loop-number.number c.loop-number.rest.now
    (slots_after None (slots_from false (c.args.count - 1) c.args.bytes.now)) c.loop-number-test.false
    c.loop-number.invariant)
