use Rattle.std.specs.Prelude.{◌≡◌, ℕ, ◌+◌, List, Option, option_map}
use Rattle.model.specs.declared.colours.Cell.{Cell}
use Rattle.model.specs.declared.colours.Phase.{Phase}
use Rattle.model.specs.declared.journals.HeapShape.{HeapShape}
use Rattle.model.specs.Accounts.{Account, take_cell, numbers_up}
use Rattle.circular_buffer.specs.Buffer.{Buffer, buffer}
use Rattle.colours.specs.declared.free_lists.FreeLists.{FreeLists}

-- The lists that the code keeps, as the account has them.

-- all cells of a heap, in lists with so much room
abbrev pub all_free : HeapShape → ℕ → FreeLists
all_free shape room = record {
  small = buffer (numbers_up 0 shape.small) room;
  medium = buffer (numbers_up shape.small shape.medium) room;
  large = buffer (numbers_up (shape.small + shape.medium) shape.large) room;
}

-- an account with these lists of free cells in place of its own
abbrev pub listing : Account → FreeLists → Account
listing a free = record a { small = free.small.items; medium = free.medium.items; large = free.large.items }

-- what was found is taken: of any account with the old lists, which then has the new ones
abbrev pub Takes : FreeLists → ℕ → Option ℕ → FreeLists → Type 0
Takes old words found new =
    (a : Account) → take_cell (listing a old) words ≡ option_map (λ c. (c, listing a new)) found

-- how many cells each list has room for
abbrev pub capacities : FreeLists → ℕ × ℕ × ℕ
capacities free = (free.small.capacity, free.medium.capacity, free.large.capacity)

-- the account for which these parts stand
abbrev pub account_of : List Cell → FreeLists → Buffer ℕ → Phase → Account
account_of cells free queue phase = record {
  cells = cells;
  small = free.small.items;
  medium = free.medium.items;
  large = free.large.items;
  grey = queue.items;
  phase = phase;
}
