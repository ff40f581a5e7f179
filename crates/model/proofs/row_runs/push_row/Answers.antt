use Rattle.std.proofs.Common.{◌≡◌, ◌++◌, ◌∷◌, [], ◌∙◌, ap, append-nil, arith, replicate, subst, sym}
use Rattle.model.specs.declared.row_runs.RowRun.{RowRun}
use Rattle.model.specs.declared.row_runs.TurnTaken.{TurnTaken}
use Rattle.std.specs.Prelude.{List}
use Rattle.model.specs.RowRuns.{AreRuns, rows_in}
use Rattle.model.proofs.RunsAndRows.{AreRuns-push, rows_in-row}
use Rattle.model.proofs.row_runs.push_row.Goals as goal

pub returns-clause-added : goal.returns-clause-added
returns-clause-added c =
    let old = c.args.runs.now.items in
    let none : c.lengthen.result ≡ 0 = omega (arith, c.if-lengthen-gt0.false) in
    ap rows_in (c.in_ok-push.ensures.items
    ∙ ap (λ (turn : TurnTaken). c.lengthen.new.runs.items
    ++ (record { turn = turn; worker = c.args.row.worker; times = 1 }) ∷ []) c.taken.ensures)
    ∙ rows_in-row c.lengthen.new.runs.items c.args.row
    ∙ ap (λ l. l ++ c.args.row ∷ []) (c.lengthen.ensures.rows ∙ ap (λ n. rows_in old ++ replicate n c.args.row) none
    ∙ append-nil (rows_in old))

pub returns-clause-runs : goal.returns-clause-runs
returns-clause-runs c =
    subst (λ (runs : List RowRun). AreRuns runs) (sym c.in_ok-push.ensures.items)
    (AreRuns-push c.lengthen.new.runs.items _ c.lengthen.ensures.runs (omega arith))
