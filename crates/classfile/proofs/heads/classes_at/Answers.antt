use Rattle.std.proofs.lemmas.Result.{err_from_is_err_and}
use Rattle.classfile.specs.Reading.Heads.{class_from}
use Rattle.classfile.specs.Reading.Lists.{repeated}
use Rattle.classfile.proofs.ListLoops.{goes_on, ends, is_done}
use Rattle.classfile.proofs.heads.classes_at.Goals as goal

pub returns-in_err-class : goal.returns-in_err-class
returns-in_err-class c =
    let p = err_from_is_err_and c.from_residual.result c.from_residual.ensures.1 in
    rw (p.1, p.2) (ends (class_from c.args.pool.now) c.in_err-class.field-0.0 c.loop.classes.items c.args.count
    c.loop.counter c.loop.rest.now (repeated (class_from c.args.pool.now) c.args.count c.args.bytes.now)
    c.loop-test.true c.in_err-class.ensures.gives c.loop.invariant)

pub loop-preserved : goal.loop-preserved
loop-preserved c =
    rw c.in_ok-push.ensures.items (goes_on (class_from c.args.pool.now) c.loop.classes.items c.args.count c.loop.counter
    c.loop.rest.now c.in_ok-class.class c.in_ok-class.after.now (repeated (class_from c.args.pool.now) c.args.count
    c.args.bytes.now) c.loop-test.true c.in_ok-class.ensures.gives c.loop.invariant)

pub returns : goal.returns
returns c = is_done (class_from c.args.pool.now) c.loop.classes.items c.args.count c.loop.counter c.loop.rest.now
    (repeated (class_from c.args.pool.now) c.args.count c.args.bytes.now) c.loop-test.false c.loop.invariant
