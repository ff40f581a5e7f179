use Rattle.std.proofs.Common.{◌≡◌, ◌++◌}
use Rattle.model.specs.JournalTexts.{row_line, lines_of_rows}
use Rattle.journal_texts.proofs.writing.write_rows.Given as goal

-- the text so far, and the lines that are left
abbrev pub invariant-loop-row : goal.invariant-loop-row
invariant-loop-row l = l.text.items ++ lines_of_rows row_line l.row-iterator ≡ l.fn.text.items
    ++ lines_of_rows row_line l.fn.rows
