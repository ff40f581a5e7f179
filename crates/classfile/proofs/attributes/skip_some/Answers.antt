use Rattle.std.proofs.lemmas.Result.{err_from_is_err_and}
use Rattle.classfile.specs.Reading.Attributes.{none_wanted, no_step, attributes_from}
use Rattle.classfile.proofs.AttributeLoops.{goes_on, ends, is_done}
use Rattle.classfile.proofs.attributes.skip_some.Goals as goal

pub returns-in_err-rest-clause-gives : goal.returns-in_err-rest-clause-gives
returns-in_err-rest-clause-gives c =
    let p = err_from_is_err_and c.from_residual.result c.from_residual.ensures.1 in
    rw (p.1, p.2) (ends c.args.pool.now none_wanted no_step c.in_err-rest.field-0.0 c.args.count c.loop.counter 0
    c.loop.rest.now (attributes_from c.args.pool.now none_wanted no_step c.args.count 0 c.args.bytes.now)
    c.loop-test.true c.in_err-rest.ensures.gives c.loop.invariant)

pub loop-preserved : goal.loop-preserved
loop-preserved c =
    goes_on c.args.pool.now none_wanted no_step c.args.count c.loop.counter 0 c.loop.rest.now 0 c.in_ok-rest.rest.now
    (attributes_from c.args.pool.now none_wanted no_step c.args.count 0 c.args.bytes.now) c.loop-test.true
    c.in_ok-rest.ensures.gives c.loop.invariant

pub returns-clause-gives : goal.returns-clause-gives
returns-clause-gives c =
    is_done c.args.pool.now none_wanted no_step c.args.count c.loop.counter 0 c.loop.rest.now
    (attributes_from c.args.pool.now none_wanted no_step c.args.count 0 c.args.bytes.now) c.loop-test.false
    c.loop.invariant
