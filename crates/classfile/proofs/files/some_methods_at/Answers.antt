use Rattle.std.proofs.lemmas.Result.{err_from_is_err_and}
use Rattle.classfile.specs.Reading.Answers.{shown}
use Rattle.classfile.specs.Reading.Methods.{method_from}
use Rattle.classfile.specs.Reading.Lists.{repeated}
use Rattle.classfile.proofs.ListLoops.{goes_on, ends, is_done}
use Rattle.classfile.proofs.files.some_methods_at.Goals as goal

pub returns-in_err-method : goal.returns-in_err-method
returns-in_err-method c =
    let p = err_from_is_err_and c.from_residual.result c.from_residual.ensures.1 in
    rw (p.1, p.2) (ends (method_from c.args.pool.now c.args.flags) (shown c.in_err-method.field-0.0)
    c.loop.methods.items c.args.count c.loop.counter c.loop.rest.now
    (repeated (method_from c.args.pool.now c.args.flags) c.args.count c.args.bytes.now) c.loop-test.true
    c.in_err-method.ensures c.loop.invariant)

pub loop-preserved : goal.loop-preserved
loop-preserved c =
    rw c.in_ok-push.ensures.items (goes_on (method_from c.args.pool.now c.args.flags) c.loop.methods.items c.args.count
    c.loop.counter c.loop.rest.now c.in_ok-method.method c.in_ok-method.after.now
    (repeated (method_from c.args.pool.now c.args.flags) c.args.count c.args.bytes.now) c.loop-test.true
    c.in_ok-method.ensures c.loop.invariant)

pub returns : goal.returns
returns c = is_done (method_from c.args.pool.now c.args.flags) c.loop.methods.items c.args.count c.loop.counter
    c.loop.rest.now (repeated (method_from c.args.pool.now c.args.flags) c.args.count c.args.bytes.now)
    c.loop-test.false c.loop.invariant
