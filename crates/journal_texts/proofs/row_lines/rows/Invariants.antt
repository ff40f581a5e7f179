use Rattle.std.proofs.Common.{◌≡◌, ◌++◌, All, length}
use Rattle.model.specs.JournalTexts.{lines_of_rows}
use Rattle.journal_texts.specs.JournalReading.{FitsRow, line_by}
use Rattle.journal_texts.proofs.row_lines.rows.Given as goal

-- the rows so far, and what is left of the text
abbrev pub invariant-rows : goal.invariant-rows
invariant-rows l = (l.text ≡ lines_of_rows (line_by l.version) l.rows.rows ++ l.rest)
    × All (FitsRow l.workers) l.rows.rows

abbrev pub decreases-rows : goal.decreases-rows
decreases-rows l = length l.rest
