use Rattle.std.proofs.Common.{None}
use Rattle.std.proofs.lemmas.Result.{err_from_is_err_and}
use Rattle.classfile.specs.Reading.Answers.{shown}
use Rattle.classfile.specs.Reading.Attributes.{attributes_from}
use Rattle.classfile.specs.Reading.Methods.{is_code_name, found_code_from}
use Rattle.classfile.proofs.AttributeLoops.{goes_on, ends, is_done}
use Rattle.classfile.proofs.methods.attributes_of.Goals as goal

pub returns-in_err-code : goal.returns-in_err-code
returns-in_err-code c =
    let p = err_from_is_err_and c.from_residual.result c.from_residual.ensures.1 in
    rw (p.1, p.2) (ends c.args.pool.now is_code_name (found_code_from c.args.pool.now c.args.wanted)
    (shown c.in_err-code.field-0.0) c.args.count c.loop.counter c.loop.found c.loop.rest.now
    (attributes_from c.args.pool.now is_code_name (found_code_from c.args.pool.now c.args.wanted) c.args.count None
    c.args.bytes.now) c.loop-test.true c.in_err-code.ensures c.loop.invariant)

pub loop-preserved : goal.loop-preserved
loop-preserved c =
    goes_on c.args.pool.now is_code_name (found_code_from c.args.pool.now c.args.wanted) c.args.count c.loop.counter
    c.loop.found c.loop.rest.now c.in_ok-code.code c.in_ok-code.after.now
    (attributes_from c.args.pool.now is_code_name (found_code_from c.args.pool.now c.args.wanted) c.args.count None
    c.args.bytes.now) c.loop-test.true c.in_ok-code.ensures c.loop.invariant

pub returns : goal.returns
returns c =
    is_done c.args.pool.now is_code_name (found_code_from c.args.pool.now c.args.wanted) c.args.count c.loop.counter
    c.loop.found c.loop.rest.now (attributes_from c.args.pool.now is_code_name
    (found_code_from c.args.pool.now c.args.wanted) c.args.count None c.args.bytes.now) c.loop-test.false
    c.loop.invariant
