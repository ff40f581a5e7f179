use Rattle.std.specs.Prelude.{ℕ, List}
use Rattle.model.specs.Accounts.{Account}
use Rattle.join.specs.Joined.{named_account}
use Rattle.join.specs.ReadBack.{birth_read}
use Rattle.join.specs.TurnsOnCells.{CellMachine}

-- The lists of an account, in their order.

-- the grey births, the next to be blackened first; the free cells of each size, the next to be taken first
pub record CellLists : Type 0 where
  pub grey : List ℕ
  pub small : List ℕ
  pub medium : List ℕ
  pub large : List ℕ

abbrev pub lists_of : Account → CellLists
lists_of a = record { grey = a.grey; small = a.small; medium = a.medium; large = a.large }

-- with the birth that is in its cell in place of each reference
abbrev pub lists_on : CellMachine → CellLists
lists_on x = lists_of (named_account (birth_read x.account.cells) x.account)
