use Rattle.std.proofs.Common.{◌≤◌, ◌<◌, ◌+◌, ◌∙◌, ap, arith, length}
use Rattle.std.proofs.lemmas.List.{length-append}
use Rattle.std.specs.Prelude.{vec_capacity}
use Rattle.model.specs.Journals.{rows_of_rounds}
use Rattle.model.specs.RowRuns.{rows_in}
use Rattle.model.proofs.RunsAndRows.{rounds-length, runs_fit}
use Rattle.model.proofs.row_runs.RowRuns.note_rounds.Goals as goal

pub push_rounds-requires-clause-room : goal.push_rounds-requires-clause-room
push_rounds-requires-clause-room c = λ some.
    let a = c.self.inside in
    let rows = rows_of_rounds c.args.first c.args.second c.args.times c.args.rounds in
    let room : length (rows_in a.runs.items) + length rows ≤ vec_capacity a.runs =
    (rw (← c.self.view_is) at c.requires) some in
    let fits = runs_fit a.runs.items c.self.invariant.0 in
    omega (arith, room, fits, a.runs.ok.0)

pub overflow_add-self-2 : goal.overflow_add-self-2
overflow_add-self-2 c =
    let a = c.self.inside in
    let some : 0 < c.args.rounds = omega (arith, c.if-rounds-eq0.false) in
    let rows = rows_of_rounds c.args.first c.args.second c.args.times c.args.rounds in
    let room : length (rows_in a.runs.items) + length rows ≤ vec_capacity a.runs =
    (rw (← c.self.view_is) at c.requires) some in
    let long = rounds-length c.args.first c.args.second c.args.times c.args.rounds in
    omega (arith, room, long, c.self.invariant.1)

pub invariant_of-self : goal.invariant_of-self
invariant_of-self c =
    let a = c.self.inside in
    let rows = rows_of_rounds c.args.first c.args.second c.args.times c.args.rounds in
    let long = rounds-length c.args.first c.args.second c.args.times c.args.rounds in
    let both = ap length c.push_rounds.ensures.rows ∙ length-append (rows_in a.runs.items) rows in
    (c.push_rounds.ensures.runs, omega (arith, both, long, c.self.invariant.1))
