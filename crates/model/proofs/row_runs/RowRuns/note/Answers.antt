use Rattle.std.proofs.Common.{◌<◌, ◌++◌, ◌∷◌, [], ◌∙◌, ℕ, List, ap, arith, length}
use Rattle.std.specs.Prelude.{vec_capacity}
use Rattle.model.specs.declared.journals.Row.{Row}
use Rattle.model.specs.RowRuns.{rows_in}
use Rattle.model.proofs.RunsAndRows.{runs_fit}
use Rattle.model.proofs.row_runs.RowRuns.note.Goals as goal

pub push_rows-requires-clause-room : goal.push_rows-requires-clause-room
push_rows-requires-clause-room c = λ left.
    let a = c.self.inside in
    let room : length (rows_in a.runs.items) < vec_capacity a.runs = rw (← c.self.view_is) at c.requires in
    let fits = runs_fit a.runs.items c.self.invariant.0 in
    omega (arith, room, fits, a.runs.ok.0)

pub returns : goal.returns
returns c =
    let a = c.self.inside in
    rw (← c.self.view_is)
    (ap (λ (rows : List Row). record { rows = rows; room = vec_capacity c.push_rows.new.runs }) c.push_rows.ensures.rows
    ∙ ap (λ (room : ℕ). record { rows = rows_in a.runs.items ++ c.args.row ∷ []; room = room })
    c.push_rows.ensures.capacity)
