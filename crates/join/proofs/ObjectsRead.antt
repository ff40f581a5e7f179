use Rattle.std.proofs.Common.{◌≡◌, ℕ, zero, suc, ◌+◌, List, [], ◌∷◌, Bool, true, false, if◌then◌else◌, Option, Some}
use Rattle.std.proofs.Common.{None, refl, sym, ◌∙◌, ap, arith, eqb-true, eq-eqb}
use Rattle.model.specs.declared.colours.Colour.{Colour}
use Rattle.model.specs.declared.colours.Cell.{Cell}
use Rattle.model.specs.declared.colours.Cell.TheVariants.{Free, Taken}
use Rattle.model.specs.Worlds.{World}
use Rattle.model.specs.Objects.{object_at}
use Rattle.model.specs.Observers.{reached_object}
use Rattle.model.specs.Collector.Reached.{is_reached}
use Rattle.model.specs.Collector.Table.{cell_at}
use Rattle.join.specs.ReadBack.{holds_birth, cell_from, object_in, reached_object_in, object_on}
use Rattle.join.specs.TurnsOnCells.{CellMachine}

-- An object is read off its cell: the first that holds its birth, which no other cell does.

-- ---- the cell of a birth

-- it holds the birth, so many cells after the first of these
abbrev Holding : ℕ → ℕ → List Cell → ℕ → Type 0
Holding first b cells c = (k : ℕ) × (c ≡ first + k) × ((x : Colour) × (cell_at cells k ≡ Taken b x))

held_by : (b : ℕ) (cell : Cell) → holds_birth b cell ≡ true → (x : Colour) × (cell ≡ Taken b x)
held_by b Free e = absurd (cc)
held_by b (Taken a x) e = (x, ap (λ (n : ℕ). Taken n x) (eqb-true a b e))

holding_from : (first b : ℕ) (cells : List Cell) (c : ℕ) → cell_from first b cells ≡ Some c → Holding first b cells c
holding_from first b [] c e = absurd (cc)
holding_from first b (cell ∷ cells) c e = by (holds_birth b cell) (holding_from (suc first) b cells c) refl e
  where
    by :
        (t : Bool) →
        (cell_from (suc first) b cells ≡ Some c → Holding (suc first) b cells c) →
        holds_birth b cell ≡ t → (if t then Some first else cell_from (suc first) b cells) ≡ Some c
        → Holding first b (cell ∷ cells) c
    by true further test found =
        let is : first ≡ c = cc in
        (0, omega (arith, is), held_by b cell test)
    by false further test found =
        let rest = further found in
        let is = rest.1 in
        (suc rest.0, omega (arith, is), rest.2)

pub holding : (b : ℕ) (cells : List Cell) (c : ℕ) → cell_from 0 b cells ≡ Some c → (x : Colour)
    × (cell_at cells c ≡ Taken b x)
holding b cells c e =
    let found = holding_from 0 b cells c e in
    let is = found.1 in
    let same : found.0 ≡ c = omega (arith, is) in
    (found.2.0, ap (cell_at cells) (sym same) ∙ found.2.1)

-- where some cell holds the birth, one is found
pub found_from : (first b : ℕ) (cells : List Cell) (c : ℕ) (x : Colour) → cell_at cells c ≡ Taken b x
    → cell_from first b cells ≡ None → ⊥
found_from first b [] c x held none = cc
found_from first b (cell ∷ cells) zero x held none = by (holds_birth b cell) (ap (holds_birth b) held ∙ eq-eqb b b refl)
    none
  where
    by : (t : Bool) → t ≡ true → (if t then Some first else cell_from (suc first) b cells) ≡ None → ⊥
    by true test found = cc
    by false test found = cc
found_from first b (cell ∷ cells) (suc c) x held none = by (holds_birth b cell)
    (found_from (suc first) b cells c x held) none
  where
    by : (t : Bool) → (cell_from (suc first) b cells ≡ None → ⊥)
        → (if t then Some first else cell_from (suc first) b cells) ≡ None → ⊥
    by true further found = cc
    by false further found = further found

-- ---- the object

module _ (x : CellMachine) (w : World) (b : ℕ)
    (alike : (c : ℕ) (y : Colour) → cell_at x.account.cells c ≡ Taken b y → is_reached x.world (suc c) ≡ is_reached w b)
    (object : (c : ℕ) (y : Colour) → cell_at x.account.cells c ≡ Taken b y → is_reached w b ≡ true → object_in x c
    ≡ object_at w b)
    (cell : is_reached w b ≡ true → (c : ℕ) × ((y : Colour) × (cell_at x.account.cells c ≡ Taken b y))) where
  in_cell : (c : ℕ) (y : Colour) (t : Bool) → cell_at x.account.cells c ≡ Taken b y → is_reached w b ≡ t
      → (if t then object_in x c else None) ≡ (if t then object_at w b else None)
  in_cell c y true held e = object c y held e
  in_cell c y false held e = refl

  in_none : (t : Bool) → is_reached w b ≡ t → cell_from 0 b x.account.cells ≡ None
      → None ≡ (if t then object_at w b else None)
  in_none true e none = let c = cell e in absurd (found_from 0 b x.account.cells c.0 c.1.0 c.1.1 none)
  in_none false e none = refl

  by_cell : (o : Option ℕ) → cell_from 0 b x.account.cells ≡ o → reached_object_in x o ≡ reached_object w b
  by_cell None e = in_none (is_reached w b) refl e
  by_cell (Some c) e =
      let held = holding b x.account.cells c e in
      ap (λ (t : Bool). if t then object_in x c else None) (alike c held.0 held.1) ∙
      in_cell c held.0 (is_reached w b) held.1 refl

  pub shown_in_cell : object_on x b ≡ reached_object w b
  shown_in_cell = by_cell (cell_from 0 b x.account.cells) refl
