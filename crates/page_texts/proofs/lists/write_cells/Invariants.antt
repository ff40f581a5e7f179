use Rattle.std.proofs.Common.{◌≡◌, ◌++◌, drop}
use Rattle.page_texts.specs.Shown.{cells_words}
use Rattle.page_texts.proofs.lists.write_cells.Given as goal

-- the text so far, and those that are left
abbrev pub invariant-loop-cell : goal.invariant-loop-cell
invariant-loop-cell l = l.text.items ++ cells_words (drop l.cell-index l.cells) ≡ l.fn.text.items ++ cells_words l.cells
