use Rattle.std.proofs.Common.{◌≡◌, ◌-◌, ◌++◌, take}
use Rattle.model.specs.JournalTexts.{row_line, lines_of_rows}
use Rattle.page_texts.specs.Shown.{rows_text}
use Rattle.page_texts.proofs.journal_rows.rows_answer.Given as goal

-- the text so far, and the lines of those that are left
abbrev pub invariant-loop-row : goal.invariant-loop-row
invariant-loop-row l = l.text.items ++ lines_of_rows row_line (take (l.count - l._row) l.rest)
    ≡ rows_text l.fn.rows l.first l.count
