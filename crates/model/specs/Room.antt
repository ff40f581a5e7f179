use Rattle.std.specs.Prelude.{◌≡◌, ℕ, ◌+◌, ◌<◌, ◌≤◌, nat_lt, if◌then◌else◌}
use Rattle.model.specs.declared.journals.HeapShape.{HeapShape}
use Rattle.model.specs.Accounts.{Account}
use Rattle.model.specs.declared.colours.Cell.TheVariants.{Free}
use Rattle.model.specs.Collector.Table.{cell_at}

-- What is free in a heap, told of its cells alone.

-- how many words a cell has: the small ones are numbered first, then the medium ones, then the large ones
abbrev pub words_of_cell : HeapShape → ℕ → ℕ
words_of_cell shape c = if nat_lt c shape.small then 4 else if nat_lt c (shape.small + shape.medium) then 32 else 256

-- some cell of the heap is free and has at least so many words
pub record Room (shape : HeapShape) (a : Account) (words : ℕ) : Type 0 where
  pub cell : ℕ
  pub within : cell < shape.small + shape.medium + shape.large
  pub is_free : cell_at a.cells cell ≡ Free
  pub fits : words ≤ words_of_cell shape cell
