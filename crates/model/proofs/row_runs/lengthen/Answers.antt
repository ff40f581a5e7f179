use Rattle.std.proofs.Common.{◌≡◌, ◌+◌, ◌-◌, ◌++◌, ◌∙◌, ap, arith, length, replicate, sym}
use Rattle.model.specs.RowRuns.{rows_in}
use Rattle.model.proofs.RunsAndRows.{rows_lengthened, runs_lengthened}
use Rattle.model.proofs.row_runs.lengthen.Goals as goal

pub returns-clause-rows : goal.returns-clause-rows
returns-clause-rows c =
    let items = c.args.runs.now.items in
    let count = c.len-count.ensures ∙ c.args.runs.now.ok.0 in
    let last : c.len-count.result - 1 + 1 ≡ length items = omega (arith, count, c.if-count-eq0.false) in
    rows_lengthened items (c.len-count.result - 1) c.room_for-more.result c.index-last.result.now c.index-last.ensures
    c.args.row last c.room_for-more.ensures.same
    ∙ ap (λ n. rows_in items ++ replicate n c.args.row) (sym c.from.ensures)

pub returns-clause-runs : goal.returns-clause-runs
returns-clause-runs c =
    runs_lengthened c.args.runs.now.items (c.len-count.result - 1) c.room_for-more.result c.index-last.result.now
    c.index-last.ensures c.requires
