-- Journals whose rows their turns made.
use Rattle.std.specs.Prelude.{◌≡◌, ℕ, List, [], ◌∷◌, take, Some, true}
use Rattle.model.specs.declared.journals.HeapShape.{HeapShape}
use Rattle.model.specs.declared.journals.Limits.{Limits}
use Rattle.model.specs.declared.journals.Row.{Row}
use Rattle.model.specs.ClassListings.{ClassListing}
use Rattle.model.specs.Journals.{JournalValue}
use Rattle.model.specs.Machines.{Machine, Recorded, advance, opening_machine, row_by}
use Rattle.model.specs.Worlds.{opening_fits}

-- each row is the one that its actor's turn by its worker makes, on the machine to which the rows before it lead
abbrev pub AreMade : List ClassListing → HeapShape → Limits → Machine → List Row → Type 0
AreMade program shape limits m [] = Unit {0}
AreMade program shape limits m (row ∷ rows) =
    (row_by program limits m row.actor row.worker ≡ Some row)
    × AreMade program shape limits (advance program shape limits m row) rows

-- the rows are those that a run of the program makes, from its opening on
abbrev pub AreRun : List ClassListing → JournalValue → List Row → Type 0
AreRun program journal rows = AreMade program journal.shape journal.limits (opening_machine program journal.shape) rows

-- a run of the program made the journal
pub record IsMade (v : Recorded) : Type 0 where
  pub opens : opening_fits v.program ≡ true
  pub rows : AreRun v.program v.journal v.journal.rows

-- a program and a journal, with these rows in place of its own
abbrev pub with_all : Recorded → List Row → Recorded
with_all v rows = record v { journal = record v.journal { rows = rows } }

-- a program and a journal's first rows
abbrev pub front : Recorded → ℕ → Recorded
front v n = with_all v (take n v.journal.rows)
