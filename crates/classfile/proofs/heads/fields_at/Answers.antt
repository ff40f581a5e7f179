use Rattle.std.proofs.lemmas.Result.{err_from_is_err_and}
use Rattle.classfile.specs.Reading.Fields.{field_from}
use Rattle.classfile.specs.Reading.Lists.{repeated}
use Rattle.classfile.proofs.ListLoops.{goes_on, ends, is_done}
use Rattle.classfile.proofs.heads.fields_at.Goals as goal

pub returns-in_err-field : goal.returns-in_err-field
returns-in_err-field c =
    let p = err_from_is_err_and c.from_residual.result c.from_residual.ensures.1 in
    rw (p.1, p.2) (ends (field_from c.args.pool.now c.args.flags) c.in_err-field.field-0.0 c.loop.fields.items
    c.args.count c.loop.counter c.loop.rest.now (repeated (field_from c.args.pool.now c.args.flags) c.args.count
    c.args.bytes.now) c.loop-test.true c.in_err-field.ensures.gives c.loop.invariant)

pub loop-preserved : goal.loop-preserved
loop-preserved c =
    rw c.in_ok-push.ensures.items (goes_on (field_from c.args.pool.now c.args.flags) c.loop.fields.items c.args.count
    c.loop.counter c.loop.rest.now c.in_ok-field.field c.in_ok-field.after.now
    (repeated (field_from c.args.pool.now c.args.flags) c.args.count c.args.bytes.now) c.loop-test.true
    c.in_ok-field.ensures.gives c.loop.invariant)

pub returns : goal.returns
returns c = is_done (field_from c.args.pool.now c.args.flags) c.loop.fields.items c.args.count c.loop.counter
    c.loop.rest.now (repeated (field_from c.args.pool.now c.args.flags) c.args.count c.args.bytes.now) c.loop-test.false
    c.loop.invariant
