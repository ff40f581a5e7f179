use Rattle.std.proofs.Common.{◌≡◌, ◌⊎◌, inl, inr, ℕ, zero, suc, ◌<◌, Bool, true, false, ◌||◌, if◌then◌else◌, List, []}
use Rattle.std.proofs.Common.{◌∷◌, length, map, set, nat_eq, refl, sym, ◌∙◌, ap, arith, eqb-true, eq-eqb}
use Rattle.model.specs.declared.colours.Colour.{Colour}
use Rattle.model.specs.declared.colours.Colour.TheVariants.{White, Grey, Black}
use Rattle.model.specs.declared.colours.Phase.{Phase}
use Rattle.model.specs.declared.colours.Phase.TheVariants.{Idle, Statics, Frames, Mark, Append}
use Rattle.model.specs.Accounts.{tint, is_white, has_white}
use Rattle.model.specs.declared.colours.Cell.{Cell}
use Rattle.model.specs.declared.colours.Cell.TheVariants.{Free, Taken}
use Rattle.model.specs.Collector.Table.{cell_at}
use Rattle.model.specs.Collector.Invariant.{Kept, HasKept, NotWhite}

-- cells after a change of all of them, after a write of one, and after a birth was shaded

pub length-cells : (f : Cell → Cell) (cells : List Cell) → length (map f cells) ≡ length cells
length-cells f [] = refl
length-cells f (x ∷ xs) = ap suc (length-cells f xs)

pub cell_at-map : (f : Cell → Cell) → f Free ≡ Free → (cells : List Cell) (c : ℕ) → cell_at (map f cells) c
    ≡ f (cell_at cells c)
cell_at-map f e [] c = sym e
cell_at-map f e (x ∷ xs) zero = refl
cell_at-map f e (x ∷ xs) (suc c) = cell_at-map f e xs c

pub cell_at-set_same : (cells : List Cell) (c : ℕ) (x : Cell) → c < length cells → cell_at (set cells c x) c ≡ x
cell_at-set_same [] c x h = absurd (omega arith)
cell_at-set_same (y ∷ ys) zero x h = refl
cell_at-set_same (y ∷ ys) (suc c) x h = cell_at-set_same ys c x (omega arith)

pub cell_at-set_other : (cells : List Cell) (c d : ℕ) (x : Cell) → (d ≡ c → ⊥) → cell_at (set cells c x) d
    ≡ cell_at cells d
cell_at-set_other [] c d x h = refl
cell_at-set_other (y ∷ ys) zero zero x h = absurd (h refl)
cell_at-set_other (y ∷ ys) zero (suc d) x h = refl
cell_at-set_other (y ∷ ys) (suc c) zero x h = refl
cell_at-set_other (y ∷ ys) (suc c) (suc d) x h = cell_at-set_other ys c d x (λ e. h (ap suc e))

pub same_or_not : (c d : ℕ) → (d ≡ c) ⊎ (d ≡ c → ⊥)
same_or_not c d = go (nat_eq d c) refl
  where
    go : (t : Bool) → nat_eq d c ≡ t → (d ≡ c) ⊎ (d ≡ c → ⊥)
    go true e = inl (eqb-true d c e)
    go false e = inr (λ h. let k = eq-eqb d c h in cc)

-- a write at c, and each cell after it
pub cell_at-set_cases : (cells : List Cell) (c d : ℕ) (x : Cell) → c < length cells
    → ((d ≡ c) × (cell_at (set cells c x) d ≡ x)) ⊎ ((d ≡ c → ⊥) × (cell_at (set cells c x) d ≡ cell_at cells d))
cell_at-set_cases cells c d x h =
    elim (same_or_not c d) [
      | inl e ↦ let k = cell_at-set_same cells c x h in inl (e, rw e k)
      | inr n ↦ inr (n, cell_at-set_other cells c d x n)
    ]

pub taken_within : (cells : List Cell) (c b : ℕ) (x : Colour) → cell_at cells c ≡ Taken b x → c < length cells
taken_within [] c b x e = absurd (cc)
taken_within (y ∷ ys) zero b x e = omega arith
taken_within (y ∷ ys) (suc c) b x e = let h = taken_within ys c b x e in omega arith

-- ---- a birth is shaded

tint_by : (a b : ℕ) (t : Bool) → nat_eq a b ≡ t → ((if t then Taken a Grey else Taken a White) ≡ Taken a White) ⊎
    ((Taken a White ≡ Taken b White) × ((if t then Taken a Grey else Taken a White) ≡ Taken b Grey))
tint_by a b true e = let h = eqb-true a b e in inr (cc, cc)
tint_by a b false e = inl refl

tint_cases : (b : ℕ) (x : Cell) → (tint b x ≡ x) ⊎ ((x ≡ Taken b White) × (tint b x ≡ Taken b Grey))
tint_cases b Free = inl refl
tint_cases b (Taken a White) = tint_by a b (nat_eq a b) refl
tint_cases b (Taken a Grey) = inl refl
tint_cases b (Taken a Black) = inl refl

untint_by : (a b : ℕ) (t : Bool) → nat_eq a b ≡ t → (if t then Taken a Grey else Taken a White) ≡ Taken b White → ⊥
untint_by a b true e h = cc
untint_by a b false e h = let k : a ≡ b = cc in let r = eq-eqb a b k in cc

untint : (b : ℕ) (x : Cell) → tint b x ≡ Taken b White → ⊥
untint b Free h = cc
untint b (Taken a White) h = untint_by a b (nat_eq a b) refl h
untint b (Taken a Grey) h = cc
untint b (Taken a Black) h = cc

pub tinted_not_white : (b : ℕ) (cells : List Cell) → NotWhite (map (tint b) cells) b
tinted_not_white b cells = record {
  never = λ c h. untint b (cell_at cells c) (sym (cell_at-map (tint b) refl cells c)
      ∙ h);
}

-- each cell is as before, or held the birth white and now holds it grey
pub record Darker (b : ℕ) (old new : List Cell) : Type 0 where
  pub at : (c : ℕ) → (cell_at new c ≡ cell_at old c) ⊎ ((cell_at old c ≡ Taken b White)
      × (cell_at new c ≡ Taken b Grey))

pub tinted_darker : (b : ℕ) (cells : List Cell) → Darker b cells (map (tint b) cells)
tinted_darker b cells = record { at = λ c. rw (cell_at-map (tint b) refl cells c) (tint_cases b (cell_at cells c)) }

pub before : {b : ℕ} {old new : List Cell} → Darker b old new → (c a : ℕ) (x : Colour) → cell_at new c ≡ Taken a x
    → (cell_at old c ≡ Taken a x) ⊎ ((a ≡ b) × (x ≡ Grey) × (cell_at old c ≡ Taken b White))
before h c a x e = elim (h.at c) [ inl s ↦ inl cc | inr p ↦ inr (cc, cc, p.0) ]

pub after : {b : ℕ} {old new : List Cell} → Darker b old new → (c a : ℕ) (x : Colour) → cell_at old c ≡ Taken a x
    → (cell_at new c ≡ Taken a x) ⊎ ((x ≡ White) × (cell_at new c ≡ Taken a Grey))
after h c a x e = elim (h.at c) [ inl s ↦ inl cc | inr p ↦ inr (cc, cc) ]

pub held_before : {b : ℕ} {old new : List Cell} → Darker b old new → (c a : ℕ) (x : Colour) → cell_at new c ≡ Taken a x
    → (y : Colour) × (cell_at old c ≡ Taken a y)
held_before d c a x k = elim (before d c a x k) [ inl s ↦ (x, s) | inr s ↦ (White, cc) ]

pub kept-grey : (phase : Phase) (c : ℕ) → Kept phase c Grey
kept-grey Idle c = tt
kept-grey (Statics s) c = tt
kept-grey (Frames t d j) c = tt
kept-grey (Mark q) c = tt
kept-grey (Append p) c = tt

pub darker_kept : {b : ℕ} {old new : List Cell} → Darker b old new → (phase : Phase) (a : ℕ) → HasKept phase old a
    → HasKept phase new a
darker_kept h phase a k =
    elim (after h k.cell a k.colour k.held) [
      | inl e ↦ record { cell = k.cell; colour = k.colour; held = e; kept = k.kept }
      | inr p ↦ record { cell = k.cell; colour = Grey; held = p.1; kept = kept-grey phase k.cell }
    ]

pub darker_not_white : {b : ℕ} {old new : List Cell} → Darker b old new → (a : ℕ) → NotWhite old a → NotWhite new a
darker_not_white h a n = record { never = λ c e. elim (before h c a White e) [ inl s ↦ n.never c s | inr p ↦ cc ] }

-- ---- whether a birth is white

white_by : (b : ℕ) (x : Cell) → is_white b x ≡ true → x ≡ Taken b White
white_by b Free e = cc
white_by b (Taken a White) e = let h = eqb-true a b e in cc
white_by b (Taken a Grey) e = cc
white_by b (Taken a Black) e = cc

unwhite_by : (b : ℕ) (x : Cell) → is_white b x ≡ false → x ≡ Taken b White → ⊥
unwhite_by b Free e h = cc
unwhite_by b (Taken a White) e h = let k : a ≡ b = cc in let r = eq-eqb a b k in cc
unwhite_by b (Taken a Grey) e h = cc
unwhite_by b (Taken a Black) e h = cc

or_true : (s t : Bool) → (s || t) ≡ true → (s ≡ true) ⊎ (t ≡ true)
or_true true t e = inl refl
or_true false t e = inr e

or_false : (s t : Bool) → (s || t) ≡ false → (s ≡ false) × (t ≡ false)
or_false true t e = absurd (cc)
or_false false t e = (refl, e)

pub white_where : (b : ℕ) (cells : List Cell) → has_white b cells ≡ true → (c : ℕ) × (cell_at cells c ≡ Taken b White)
white_where b [] e = absurd (cc)
white_where b (x ∷ xs) e =
    elim (or_true (is_white b x) (has_white b xs) e) [
      | inl h ↦ (0, white_by b x h)
      | inr h ↦ (let r = white_where b xs h in (suc r.0, r.1))
    ]

nowhere : (b : ℕ) (cells : List Cell) → has_white b cells ≡ false → (c : ℕ) → cell_at cells c ≡ Taken b White → ⊥
nowhere b [] e c h = cc
nowhere b (x ∷ xs) e zero h = unwhite_by b x (or_false (is_white b x) (has_white b xs) e).0 h
nowhere b (x ∷ xs) e (suc c) h = nowhere b xs (or_false (is_white b x) (has_white b xs) e).1 c h

pub white_nowhere : (b : ℕ) (cells : List Cell) → has_white b cells ≡ false → NotWhite cells b
white_nowhere b cells e = record { never = nowhere b cells e }
