use Rattle.std.proofs.lemmas.Result.{err_from_is_err_and}
use Rattle.classfile.specs.Reading.Codes.{row_from}
use Rattle.classfile.specs.Reading.Lists.{repeated}
use Rattle.classfile.proofs.ListLoops.{goes_on, ends, is_done}
use Rattle.classfile.proofs.exception_rows.some_rows_at.Goals as goal

pub returns-in_err-row : goal.returns-in_err-row
returns-in_err-row c =
    let p = err_from_is_err_and c.from_residual.result c.from_residual.ensures.1 in
    rw (p.1, p.2) (ends (row_from c.args.pool.now) c.in_err-row.field-0.0 c.loop.rows.items c.args.count c.loop.counter
    c.loop.rest.now (repeated (row_from c.args.pool.now) c.args.count c.args.bytes.now) c.loop-test.true
    c.in_err-row.ensures.gives c.loop.invariant)

pub loop-preserved : goal.loop-preserved
loop-preserved c =
    rw c.in_ok-push.ensures.items (goes_on (row_from c.args.pool.now) c.loop.rows.items c.args.count c.loop.counter
    c.loop.rest.now c.in_ok-row.row c.in_ok-row.after.now (repeated (row_from c.args.pool.now) c.args.count
    c.args.bytes.now) c.loop-test.true c.in_ok-row.ensures.gives c.loop.invariant)

pub returns : goal.returns
returns c = is_done (row_from c.args.pool.now) c.loop.rows.items c.args.count c.loop.counter c.loop.rest.now
    (repeated (row_from c.args.pool.now) c.args.count c.args.bytes.now) c.loop-test.false c.loop.invariant
