use Rattle.std.proofs.Common.{None}
use Rattle.std.proofs.lemmas.Result.{err_from_is_err_and}
use Rattle.model.specs.ClassFiles.Fields.{is_constant_value}
use Rattle.classfile.specs.Reading.Attributes.{attributes_from}
use Rattle.classfile.specs.Reading.Fields.{constant_from}
use Rattle.classfile.proofs.AttributeLoops.{goes_on, ends, is_done}
use Rattle.classfile.proofs.fields.attributes_of.Goals as goal

pub returns-in_err-constant-clause-gives : goal.returns-in_err-constant-clause-gives
returns-in_err-constant-clause-gives c =
    let p = err_from_is_err_and c.from_residual.result c.from_residual.ensures.1 in
    rw (p.1, p.2) (ends c.args.pool.now (is_constant_value c.args.is_static)
    (constant_from c.args.pool.now c.args.text.now) c.in_err-constant.field-0.0 c.args.count c.loop.counter
    c.loop.found c.loop.rest.now (attributes_from c.args.pool.now (is_constant_value c.args.is_static)
    (constant_from c.args.pool.now c.args.text.now) c.args.count None c.args.bytes.now) c.loop-test.true
    c.in_err-constant.ensures.gives c.loop.invariant)

pub loop-preserved : goal.loop-preserved
loop-preserved c =
    goes_on c.args.pool.now (is_constant_value c.args.is_static) (constant_from c.args.pool.now c.args.text.now)
    c.args.count c.loop.counter c.loop.found c.loop.rest.now c.in_ok-constant.constant c.in_ok-constant.after.now
    (attributes_from c.args.pool.now (is_constant_value c.args.is_static)
    (constant_from c.args.pool.now c.args.text.now) c.args.count None c.args.bytes.now) c.loop-test.true
    c.in_ok-constant.ensures.gives c.loop.invariant

pub returns-clause-gives : goal.returns-clause-gives
returns-clause-gives c =
    is_done c.args.pool.now (is_constant_value c.args.is_static) (constant_from c.args.pool.now c.args.text.now)
    c.args.count c.loop.counter c.loop.found c.loop.rest.now
    (attributes_from c.args.pool.now (is_constant_value c.args.is_static)
    (constant_from c.args.pool.now c.args.text.now) c.args.count None c.args.bytes.now) c.loop-test.false
    c.loop.invariant
