use Rattle.std.proofs.Common.{◌++◌, ◌∙◌, ap}
use Rattle.std.specs.List.{repeat}
use Rattle.model.specs.RowRuns.{rows_in, rows_of}
use Rattle.model.proofs.RunsAndRows.{taken_times}
use Rattle.model.proofs.row_runs.push_rows.Goals as goal

pub returns-clause-rows : goal.returns-clause-rows
returns-clause-rows c =
    c.push_runs.ensures.rows
    ∙ ap (λ turn. rows_in c.args.runs.now.items ++ repeat c.args.times (rows_of turn c.args.row.worker)) c.taken.ensures
    ∙ ap (λ l. rows_in c.args.runs.now.items ++ l) (taken_times c.args.row c.args.times)
