use Rattle.std.specs.Prelude.{ℕ, List, [], ◌∷◌, Option, Some, None}
use Rattle.model.specs.declared.colours.Cell.{Cell}
use Rattle.model.specs.declared.colours.Cell.TheVariants.{Free, Taken}
use Rattle.model.specs.declared.colours.Colour.{Colour}
use Rattle.model.specs.Accounts.{Account}
use Rattle.join.specs.TurnsOnCells.{birth_in, blacken_cell}

-- What calls on the account do, by what they find: a cell that was taken, the front of the grey list.

-- the cell that was taken, if there is one
abbrev pub taken_cell : Option (ℕ × Account) → Option ℕ
taken_cell None = None
taken_cell (Some taken) = Some taken.0

-- a birth comes into the cell that was taken, grey and last in the grey list
abbrev pub born_in : Account → ℕ → Option (ℕ × Account) → Account
born_in a birth None = a
born_in a birth (Some taken) = birth_in taken.1 taken.0 birth

-- the cell of the front reference turns black, and the reference leaves the list
abbrev pub front_blackened : Account → List ℕ → Account
front_blackened a [] = a
front_blackened a (r ∷ rest) = record a { cells = blacken_cell a r; grey = rest }

-- the colour of what a cell holds
abbrev pub colour_in : Cell → Option Colour
colour_in Free = None
colour_in (Taken birth colour) = Some colour
