use Rattle.std.proofs.Common.{drop}
use Rattle.model.specs.ClassFiles.Items.{row_items}
use Rattle.assembler.specs.Numbering.{numbered_row}
use Rattle.assembler.proofs.StayingLaws.{IsMade}
use Rattle.assembler.proofs.numbered_code.rows.Given as goal

-- what was made so far stays
abbrev pub invariant-loop-row : goal.invariant-loop-row
invariant-loop-row l = IsMade row_items numbered_row l.initial.numbers l.numbers l.all.items (drop l.row-index l.rows)
    l.rows
