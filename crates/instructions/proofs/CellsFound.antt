-- The object of a birth is in the cell that holds the birth.
use Rattle.std.proofs.Common.{◌≡◌, ℕ, zero, suc, List, [], ◌∷◌, map, slice_get, true, false, Option, Some, None, IfSome}
use Rattle.std.proofs.Common.{refl, sym, ap}
use Rattle.std.specs.Prelude.{is_some}
use Rattle.model.specs.declared.colours.Cell.{Cell}
use Rattle.model.specs.declared.colours.Cell.TheVariants.{Taken}
use Rattle.model.specs.declared.colours.Colour.{Colour}
use Rattle.model.specs.Collector.Table.{cell_at}
use Rattle.cells.specs.Objects.{StoredObject, object_if}
use Rattle.join.specs.ReadBack.{cell_from}
use Rattle.join.proofs.ObjectsRead.{holding}
use Rattle.instructions.specs.HeapsAgree.{is_taken}

pub is_there : {K : Type 0} (cells : List Cell) (objects : List (Option (StoredObject K))) (c b : ℕ) (x : Colour)
    → map is_taken cells ≡ map is_some objects → cell_at cells c ≡ Taken b x → is_some (object_if (slice_get objects c))
    ≡ true
is_there [] objects c b x taken held = absurd (cc)
is_there (z ∷ cells) [] c b x taken held = absurd (cc)
is_there (z ∷ cells) (None ∷ objects) zero b x taken held =
    let here : is_taken z ≡ false = cc in
    let there : is_taken z ≡ true = ap is_taken held in
    absurd (cc)
is_there (z ∷ cells) (Some o ∷ objects) zero b x taken held = refl
is_there (z ∷ cells) (o ∷ objects) (suc c) b x taken held = is_there cells objects c b x (cc) held

pub object_there : {K : Type 0} (cells : List Cell) (objects : List (Option (StoredObject K))) (b c : ℕ)
    → map is_taken cells ≡ map is_some objects → cell_from 0 b cells ≡ Some c
    → is_some (object_if (slice_get objects c)) ≡ true
object_there cells objects b c taken found =
    let held = holding b cells c found in is_there cells objects c b held.0 taken held.1

-- the same of what was found, if something was
pub found_there : {K : Type 0} (cells : List Cell) (objects : List (Option (StoredObject K))) (b : ℕ) (found : Option ℕ)
    → map is_taken cells ≡ map is_some objects → found ≡ cell_from 0 b cells
    → IfSome found (λ c. is_some (object_if (slice_get objects c)) ≡ true)
found_there cells objects b None taken e = tt
found_there cells objects b (Some c) taken e = object_there cells objects b c taken (sym e)
