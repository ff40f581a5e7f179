use Rattle.std.proofs.Common.{◌++◌, ◌∙◌, ap, List, sym}
use Rattle.std.proofs.lemmas.List.{append-nil, append_assoc}
use Rattle.model.specs.declared.journals.Row.{Row}
use Rattle.model.specs.JournalTexts.{row_line, lines_of_rows}
use Rattle.journal_texts.proofs.writing.write_rows.Goals as goal

pub loop-row-init : goal.loop-row-init
loop-row-init c = ap (λ (rows : List Row). c.args.text.now.items ++ lines_of_rows row_line rows)
    c.into_iter-row-iterator.ensures.into_iter_gives

pub loop-row-preserved : goal.loop-row-preserved
loop-row-preserved c =
    let text = c.loop-row.text.items in
    rw c.in_ok-write_row.ensures
    (append_assoc text (row_line c.in-Some.row) (lines_of_rows row_line c.next.new.self)
    ∙ ap (λ (rows : List Row). text ++ lines_of_rows row_line rows) (sym c.in-Some.ensures.steps)
    ∙ c.loop-row.invariant)

pub returns : goal.returns
returns c =
    let text = c.loop-row.text.items in
    sym (append-nil text)
    ∙ ap (λ (rows : List Row). text ++ lines_of_rows row_line rows) (sym c.in-None.ensures.steps.0)
    ∙ c.loop-row.invariant
