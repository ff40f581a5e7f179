use Rattle.std.proofs.lemmas.Result.{err_from_is_err_and}
use Rattle.opcodes.specs.Reading.Switches.{pad_at}
use Rattle.opcodes.proofs.Loops.{pad_goes_on, pad_stops, pad_ends, pad_done}
use Rattle.opcodes.proofs.switches.padded.Goals as goal

pub returns-in_err-byte-clause-gives : goal.returns-in_err-byte-clause-gives
returns-in_err-byte-clause-gives c =
    let p = err_from_is_err_and c.from_residual.result c.from_residual.ensures.1 in
    rw (p.1, p.2) (pad_ends c.in_err-byte.field-0.0 c.args.count c.loop.counter c.loop.rest.now
    (pad_at c.args.count c.args.bytes.now) c.loop-test.true c.in_err-byte.ensures.gives c.loop.invariant)

pub returns-then-byte-ne0-clause-gives : goal.returns-then-byte-ne0-clause-gives
returns-then-byte-ne0-clause-gives c = pad_stops c.args.count c.loop.counter c.loop.rest.now c.in_ok-byte.after.now c.in_ok-byte.byte
    _ c.loop-test.true c.in_ok-byte.ensures.gives c.if-byte-ne0.true c.loop.invariant

pub loop-preserved : goal.loop-preserved
loop-preserved c = pad_goes_on c.args.count c.loop.counter c.loop.rest.now c.in_ok-byte.after.now c.in_ok-byte.byte _
    c.loop-test.true c.in_ok-byte.ensures.gives c.if-byte-ne0.false c.loop.invariant

pub returns-clause-gives : goal.returns-clause-gives
returns-clause-gives c = pad_done c.args.count c.loop.counter c.loop.rest.now _ c.loop-test.false c.loop.invariant
