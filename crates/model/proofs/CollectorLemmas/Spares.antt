use Rattle.std.proofs.Common.{◌≡◌, inl, inr, ℕ, ◌<◌, ◌≤◌, List, [], ◌∷◌, ◌++◌, length, map, set, sym, ◌∙◌, ap}
use Rattle.model.specs.declared.colours.Colour.{Colour}
use Rattle.model.specs.declared.colours.Phase.{Phase}
use Rattle.model.specs.declared.journals.HeapShape.{HeapShape}
use Rattle.model.specs.Accounts.{Account}
use Rattle.model.specs.declared.colours.Cell.{Cell}
use Rattle.model.specs.declared.colours.Cell.TheVariants.{Free, Taken}
use Rattle.model.specs.Collector.Table.{cell_at, at_phase}
use Rattle.model.specs.Collector.Invariant.{In, Spare, Tidy}
use Rattle.model.proofs.CollectorLemmas.Lists.{In-left, In-last, In-push_cases, Distinct-push}
use Rattle.model.proofs.CollectorLemmas.Cells.{cell_at-map, cell_at-set_cases, cell_at-set_other}

-- a list of free cells after a change of the cells or of the list

-- each cell changes, none of them to a free one
pub spare-map : (f : Cell → Cell) → f Free ≡ Free → ((x : Cell) → f x ≡ Free → x ≡ Free)
    → (cells : List Cell) (first past : ℕ) (free : List ℕ) → Spare cells first past free
    → Spare (map f cells) first past free
spare-map f e none cells first past free h = record {
  unused = λ c k. cell_at-map f e cells c ∙ ap f (h.unused c k) ∙ e;
  fits = h.fits;
  listed = λ c l u k. h.listed c l u (none (cell_at cells c) (sym (cell_at-map f e cells c) ∙ k));
  once = h.once;
}

-- a cell of another size is written
pub spare-unfit : (cells : List Cell) (p : ℕ) (x : Cell) (first past : ℕ) (free : List ℕ)
    → ((first ≤ p) × (p < past) → ⊥) → Spare cells first past free → Spare (set cells p x) first past free
spare-unfit cells p x first past free n h = record {
  unused = λ c k. cell_at-set_other cells p c x (λ e. n (rw (← e) (h.fits c k))) ∙ h.unused c k;
  fits = h.fits;
  listed = λ c l u k. h.listed c l u (sym (cell_at-set_other cells p c x (λ e. n (rw (← e) (l, u)))) ∙ k);
  once = h.once;
}

-- a cell that isn't free is of no list
unfree : (cells : List Cell) (p : ℕ) (first past : ℕ) (free : List ℕ) → (cell_at cells p ≡ Free → ⊥)
    → Spare cells first past free → In p free → ⊥
unfree cells p first past free n h k = n (h.unused p k)

-- a cell that isn't free is written, and stays so
pub spare-set : (cells : List Cell) (p b : ℕ) (x : Colour) (first past : ℕ) (free : List ℕ) → p < length cells
    → (cell_at cells p ≡ Free → ⊥) → Spare cells first past free → Spare (set cells p (Taken b x)) first past free
spare-set cells p b x first past free lt n h = record {
  unused = λ c k. cell_at-set_other cells p c (Taken b x) (λ e. unfree cells p first past free n h (rw (← e) k))
      ∙ h.unused c k;
  fits = h.fits;
  listed = λ c l u k. elim (cell_at-set_cases cells p c (Taken b x) lt) [
    | inl s ↦ (let z = s.1 in absurd (cc))
    | inr s ↦ h.listed c l u (sym s.1 ∙ k)
  ];
  once = h.once;
}

-- the front cell is taken, and a birth comes into it
pub spare-taken : (cells : List Cell) (c b : ℕ) (x : Colour) (first past : ℕ) (free : List ℕ) → c < length cells
    → Spare cells first past (c ∷ free) → Spare (set cells c (Taken b x)) first past free
spare-taken cells c b x first past free lt h = record {
  unused = λ d k. cell_at-set_other cells c d (Taken b x) (λ e. h.once.0 (rw (← e) k)) ∙ h.unused d (inr k);
  fits = λ d k. h.fits d (inr k);
  listed = λ d l u k. elim (cell_at-set_cases cells c d (Taken b x) lt) [
    | inl s ↦ (let z = s.1 in absurd (cc))
    | inr s ↦ elim (h.listed d l u (sym s.1 ∙ k)) [ inl e ↦ absurd (s.0 e) | inr r ↦ r ]
  ];
  once = h.once.1;
}

-- a cell of the size is given back, and comes to the end of the list
pub spare-freed : (cells : List Cell) (p first past : ℕ) (free : List ℕ) → p < length cells
    → (cell_at cells p ≡ Free → ⊥) → first ≤ p → p < past → Spare cells first past free
    → Spare (set cells p Free) first past (free ++ p ∷ [])
spare-freed cells p first past free lt n l u h = record {
  unused = λ c k. elim (cell_at-set_cases cells p c Free lt) [
    | inl s ↦ s.1
    | inr s ↦ elim (In-push_cases free p c k) [ inl r ↦ s.1 ∙ h.unused c r | inr e ↦ absurd (s.0 e) ]
  ];
  fits = λ c k. elim (In-push_cases free p c k) [ inl r ↦ h.fits c r | inr s ↦ rw s (l, u) ];
  listed = λ c m v k. elim (cell_at-set_cases cells p c Free lt) [
    | inl s ↦ rw s.0 (In-last free p)
    | inr s ↦ In-left free (p ∷ []) c (h.listed c m v (sym s.1 ∙ k))
  ];
  once = Distinct-push free p h.once (unfree cells p first past free n h);
}

-- ---- an account in another phase

pub tidy-phase : (shape : HeapShape) (n : ℕ) (a : Account) (phase : Phase) → Tidy shape n a
    → Tidy shape n (at_phase a phase)
tidy-phase shape n a phase h = record {
  sized = h.sized;
  one = h.one;
  some = h.some;
  born = h.born;
  listed = h.listed;
  only_grey = h.only_grey;
  once = h.once;
  small = h.small;
  medium = h.medium;
  large = h.large;
}
