use Rattle.std.specs.Prelude.{◌≡◌, ℕ, ◌<◌, map, Some}
use Rattle.model.specs.Accounts.{Account}
use Rattle.model.specs.Worlds.{World, next_birth}
use Rattle.model.specs.Machines.{Machine}
use Rattle.model.specs.Collector.Places.{word_at}
use Rattle.join.specs.Naming.{Naming, Named}
use Rattle.join.specs.OnCells.{on_cells}
use Rattle.join.specs.TurnsOnCells.{CellMachine}

-- The join of the machine on cells and the ideal machine: the one is the image of the other.

abbrev pub named_account : Naming → Account → Account
named_account h a = record a { grey = map h a.grey }

pub record Joined (h : Naming) (on : CellMachine) (m : Machine) : Type 0 where
  pub world : on.world ≡ on_cells h m.account.cells m.world
  pub account : on.account ≡ named_account h m.account
  pub births : on.births ≡ next_birth m.world
  pub named : Named h m.account.cells
  pub memory_error : h 1 ≡ 1
  pub stack_error : h 2 ≡ 2

-- by some naming, which is a witness
pub record Joint (on : CellMachine) (m : Machine) : Type 0 where
  pub naming : Naming
  pub joined : Joined naming on m

-- every word leads to a birth that was made, in objects that no path reaches too
abbrev pub Bounded : World → Type 0
Bounded w = (b k b' : ℕ) → word_at w b k ≡ Some b' → b' < next_birth w
