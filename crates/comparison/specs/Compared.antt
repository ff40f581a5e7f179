-- What it is to compare a world with a reference, row by row. A reference is known by the world that it shows, and by
-- which worlds' rows it has followed.
use Rattle.std.specs.Prelude.{◌≡◌, ◌≢◌, ◌⊎◌, ◌+◌, ℕ, List, [], ◌∷◌, Bool, true, false, Option, Some, None}
use Rattle.model.specs.declared.journals.Row.{Row}
use Rattle.model.specs.Machines.{Recorded, noted, row_for}
use Rattle.model.specs.Shows.{Shows}
use Rattle.model.specs.Worlds.{World}
use Rattle.scheduler.specs.OnCells.{cells_of, heap_on}

-- the turn makes this row, and after it the cells show what a reference that has followed it shows
pub record AgreesAt {R : Type 0} (shown : R → World) (beside : R → Recorded → Type 0) (v : Recorded)
    (row : Row) : Type 0 where
  pub made : row_for v row.actor row.worker ≡ Some row
  pub reference : R
  pub followed : beside reference (noted v row)
  pub shows : Shows (heap_on (cells_of (noted v row))) (shown reference)

-- the cells show another world
pub record ShowsOther {R : Type 0} (shown : R → World) (beside : R → Recorded → Type 0) (v : Recorded)
    (row : Row) : Type 0 where
  pub reference : R
  pub followed : beside reference (noted v row)
  pub other : Shows (heap_on (cells_of (noted v row))) (shown reference) → ⊥

-- the turn makes another row, or none, or the cells show another world
abbrev pub DiffersAt : {R : Type 0} → (R → World) → (R → Recorded → Type 0) → Recorded → Row → Type 0
DiffersAt shown beside v row = (row_for v row.actor row.worker ≢ Some row) ⊎ ShowsOther shown beside v row

abbrev pub AgreesIf : {R : Type 0} → (R → World) → (R → Recorded → Type 0) → Recorded → Row → Bool → Type 0
AgreesIf shown beside v row true = AgreesAt shown beside v row
AgreesIf shown beside v row false = DiffersAt shown beside v row

-- of these rows, which come after so many, the number of the first that differs, from 1; none where all agree
abbrev pub IsFirstOther : {R : Type 0} → (R → World) → (R → Recorded → Type 0) → ℕ → Recorded → List Row
    → Option ℕ → Type 0
IsFirstOther shown beside n v [] first = first ≡ None
IsFirstOther shown beside n v (row ∷ rows) first =
    (first ≡ Some (n + 1)) × DiffersAt shown beside v row
    ⊎ AgreesAt shown beside v row × IsFirstOther shown beside (n + 1) (noted v row) rows first
