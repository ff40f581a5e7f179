use Rattle.std.proofs.Common.{◌≤◌, ◌<◌, ◌+◌, ◌++◌, ◌∙◌, ℕ, List, ap, arith, length, replicate}
use Rattle.std.specs.Prelude.{vec_capacity}
use Rattle.model.specs.declared.journals.Row.{Row}
use Rattle.model.specs.RowRuns.{rows_in}
use Rattle.model.proofs.RunsAndRows.{rows_noted, runs_fit}
use Rattle.model.proofs.row_runs.RowRuns.note_times.Goals as goal

pub push_rows-requires-clause-room : goal.push_rows-requires-clause-room
push_rows-requires-clause-room c = λ left.
    let a = c.self.inside in
    let some : 0 < c.args.times = omega (arith, left) in
    let room : length (rows_in a.runs.items) + c.args.times ≤ vec_capacity
    a.runs = (rw (← c.self.view_is) at c.requires) some in
    let fits = runs_fit a.runs.items c.self.invariant.0 in
    omega (
      arith,
      room,
      fits,
      c.lengthen-more.ensures.len,
      c.lengthen-more.ensures.capacity,
      c.lengthen-more.ensures.most,
      a.runs.ok.0,
      left,
    )

pub returns : goal.returns
returns c =
    let a = c.self.inside in
    rw (← c.self.view_is)
    (ap (λ (rows : List Row). record { rows = rows; room = vec_capacity c.push_rows.new.runs })
    (rows_noted (rows_in a.runs.items) (rows_in c.lengthen-more.new.runs.items) (rows_in c.push_rows.new.runs.items)
    c.args.row c.args.times c.lengthen-more.result
    c.lengthen-more.ensures.rows c.lengthen-more.ensures.most c.push_rows.ensures.rows)
    ∙ ap (λ (room : ℕ). record { rows = rows_in a.runs.items ++ replicate c.args.times c.args.row; room = room })
    (c.push_rows.ensures.capacity ∙ c.lengthen-more.ensures.capacity))
