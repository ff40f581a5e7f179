use Rattle.std.proofs.Common.{◌++◌, ◌∙◌, List, ap, arith, sym}
use Rattle.std.specs.List.{repeat}
use Rattle.model.specs.declared.journals.Row.{Row}
use Rattle.model.specs.Journals.{rows_of_rounds}
use Rattle.model.specs.RowRuns.{rows_in}
use Rattle.model.proofs.RunsAndRows.{rounds-length}
use Rattle.model.proofs.row_runs.push_rounds.Goals as goal

pub push_runs-requires-clause-room : goal.push_runs-requires-clause-room
push_runs-requires-clause-room c = λ some.
    let long = rounds-length c.args.first c.args.second c.args.times c.args.rounds in
    let room = c.requires.room some in
    omega (arith, long, room, c.if-times-ne1.false)

pub returns-in-Some-clause-rows : goal.returns-in-Some-clause-rows
returns-in-Some-clause-rows c =
    c.push_runs.ensures.rows
    ∙ ap (λ (rows : List Row). rows_in c.args.runs.now.items ++ repeat c.args.rounds rows) c.in-Some.ensures
    ∙ ap (λ n. rows_in c.args.runs.now.items ++ rows_of_rounds c.args.first c.args.second n c.args.rounds)
    (sym c.if-times-ne1.false)
