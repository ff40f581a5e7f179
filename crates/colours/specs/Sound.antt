use Rattle.std.specs.Prelude.{◌≡◌, ◌≤◌, ℕ, zero, suc, ◌+◌, List, [], ◌∷◌, length, nat_eq, if◌then◌else◌}
use Rattle.model.specs.declared.colours.Cell.{Cell}
use Rattle.model.specs.declared.colours.Cell.TheVariants.{Free, Taken}
use Rattle.model.specs.declared.colours.Colour.TheVariants.{White, Grey, Black}
use Rattle.model.specs.declared.colours.Phase.{Phase}
use Rattle.model.specs.Accounts.{Account}
use Rattle.circular_buffer.specs.Buffer.{Buffer}
use Rattle.colours.specs.declared.free_lists.FreeLists.{FreeLists}
use Rattle.colours.specs.FreeLists.{account_of}

-- What the code keeps true of an account, whoever calls it. It is reported by counting, so that a step changes two
-- numbers by one. `Tidy` says more, and no call asks for it.

-- ---- how many cells are free, and how many are grey

abbrev pub free_in : Cell → ℕ
free_in Free = 1
free_in (Taken birth colour) = 0

abbrev pub grey_in : Cell → ℕ
grey_in Free = 0
grey_in (Taken birth White) = 0
grey_in (Taken birth Grey) = 1
grey_in (Taken birth Black) = 0

abbrev pub total : (Cell → ℕ) → List Cell → ℕ
total f [] = 0
total f (cell ∷ cells) = f cell + total f cells

-- one for a free cell of the heap, none for any other number
abbrev pub free_at : List Cell → ℕ → ℕ
free_at [] c = 0
free_at (cell ∷ cells) zero = free_in cell
free_at (cell ∷ cells) (suc c) = free_at cells c

-- ---- how often a number is in a list

abbrev pub one_if : ℕ → ℕ → ℕ
one_if c d = if nat_eq c d then 1 else 0

abbrev pub times : ℕ → List ℕ → ℕ
times c [] = 0
times c (d ∷ ds) = one_if c d + times c ds

-- ---- what is kept

-- how often the free lists have a cell, and how many cells they have
abbrev pub times_listed : ℕ → Account → ℕ
times_listed c a = times c a.small + times c a.medium + times c a.large

abbrev pub how_many_listed : Account → ℕ
how_many_listed a = length a.small + length a.medium + length a.large

-- a cell is in the free lists no more often than it is free, so what is listed is there and free, once, in one list;
-- the free lists together have no more than the free cells, and the grey list no more than the grey ones
pub record Sound (a : Account) : Type 0 where
  pub few : length a.cells ≤ 65535
  pub grey : length a.grey ≤ total grey_in a.cells
  pub free : how_many_listed a ≤ total free_in a.cells
  pub listed : (c : ℕ) → times_listed c a ≤ free_at a.cells c

-- each list has room for all cells
pub record HasRoomForAll (cells : List Cell) (free : FreeLists) (queue : Buffer ℕ) : Type 0 where
  pub small : free.small.capacity ≡ length cells
  pub medium : free.medium.capacity ≡ length cells
  pub large : free.large.capacity ≡ length cells
  pub grey : queue.capacity ≡ length cells

-- what holds of the parts
abbrev pub AreKept : List Cell → FreeLists → Buffer ℕ → Phase → Type 0
AreKept cells free queue phase = Sound (account_of cells free queue phase) × HasRoomForAll cells free queue
