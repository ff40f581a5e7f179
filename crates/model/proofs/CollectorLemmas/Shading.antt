use Rattle.std.proofs.Common.{◌≡◌, inl, inr, ℕ, Bool, true, false, if◌then◌else◌, List, [], ◌∷◌, ◌++◌, map, nat_eq}
use Rattle.std.proofs.Common.{refl, ◌∙◌, ap, arith}
use Rattle.model.specs.declared.colours.Colour.{Colour}
use Rattle.model.specs.declared.colours.Colour.TheVariants.{White, Grey, Black}
use Rattle.model.specs.declared.colours.Phase.{Phase}
use Rattle.model.specs.declared.colours.Phase.TheVariants.{Idle, Statics, Frames, Mark, Append}
use Rattle.model.specs.declared.journals.HeapShape.{HeapShape}
use Rattle.model.specs.Accounts.{Account, tint, has_white, shade, shade_all}
use Rattle.model.specs.declared.colours.Cell.{Cell}
use Rattle.model.specs.declared.colours.Cell.TheVariants.{Free, Taken}
use Rattle.model.specs.Worlds.{World}
use Rattle.model.specs.Collector.Places.{Reach}
use Rattle.model.specs.Collector.Places.Reach.{at_root, by_word}
use Rattle.model.specs.Collector.Table.{cell_at}
use Rattle.model.specs.Collector.Invariant.{In, Distinct, Kept, Fronted, Begun, HasKept, NotWhite, Tidy, Invariant}
use Rattle.model.proofs.CollectorLemmas.Lists.{In-left, In-last, In-push_cases, Distinct-push}
use Rattle.model.proofs.CollectorLemmas.Cells.{length-cells, Darker, tinted_darker, tinted_not_white, before, after}
use Rattle.model.proofs.CollectorLemmas.Cells.{held_before, darker_kept, darker_not_white, white_where, white_nowhere}
use Rattle.model.proofs.CollectorLemmas.Spares.{spare-map}

-- the invariant after a birth with a kept cell was shaded

-- each birth at the end of a path has a kept cell
pub reach_kept : (shape : HeapShape) (w : World) (n : ℕ) (a : Account) (b : ℕ) → Invariant shape w n a → Reach w b
    → HasKept a.phase a.cells b
reach_kept shape w n a b i (at_root p e) = i.roots p b e
reach_kept shape w n a b i (by_word x k r e) = let h = reach_kept shape w n a x i r
    in i.words h.cell x h.colour k b h.held h.kept e

abbrev pub grey_after : Bool → List ℕ → ℕ → List ℕ
grey_after t grey b = if t then grey ++ b ∷ [] else grey

-- the one cell of a birth has one colour
pub one_colour : (shape : HeapShape) (n : ℕ) (a : Account) → Tidy shape n a → (c d b : ℕ) (x y : Colour)
    → cell_at a.cells c ≡ Taken b x → cell_at a.cells d ≡ Taken b y → x ≡ y
one_colour shape n a h c d b x y e f = let s = h.one c d b x y e f in cc (ap (cell_at a.cells) s)

listed-shade : (shape : HeapShape) (n : ℕ) (a : Account) (b : ℕ) (t : Bool) → has_white b a.cells ≡ t → Tidy shape n a
    → (y c : ℕ) → cell_at (map (tint b) a.cells) c ≡ Taken y Grey → In y (grey_after t a.grey b)
listed-shade shape n a b true e h y c k =
    elim (before (tinted_darker b a.cells) c y Grey k) [
      | inl s ↦ In-left a.grey (b ∷ []) y (h.listed y c s)
      | inr s ↦ rw s.0 (In-last a.grey b)
    ]
listed-shade shape n a b false e h y c k =
    elim (before (tinted_darker b a.cells) c y Grey k) [
      | inl s ↦ h.listed y c s
      | inr s ↦ absurd ((white_nowhere b a.cells e).never c s.2)
    ]

stays_grey : (b : ℕ) (cells : List Cell) (y : ℕ) → (c : ℕ) × (cell_at cells c ≡ Taken y Grey) → (c : ℕ)
    × (cell_at (map (tint b) cells) c ≡ Taken y Grey)
stays_grey b cells y p = elim (after (tinted_darker b cells) p.0 y Grey p.1) [ inl s ↦ (p.0, s) | inr s ↦ (p.0, s.1) ]

turns_grey : (b : ℕ) (cells : List Cell) → (c : ℕ) × (cell_at cells c ≡ Taken b White) → (c : ℕ)
    × (cell_at (map (tint b) cells) c ≡ Taken b Grey)
turns_grey b cells p = elim (after (tinted_darker b cells) p.0 b White p.1) [
  | inl s ↦ absurd ((tinted_not_white b cells).never p.0 s)
  | inr s ↦ (p.0, s.1)
]

only-shade : (shape : HeapShape) (n : ℕ) (a : Account) (b : ℕ) (t : Bool) → has_white b a.cells ≡ t → Tidy shape n a
    → (y : ℕ) → In y (grey_after t a.grey b) → (c : ℕ) × (cell_at (map (tint b) a.cells) c ≡ Taken y Grey)
only-shade shape n a b true e h y k =
    elim (In-push_cases a.grey b y k) [
      | inl r ↦ stays_grey b a.cells y (h.only_grey y r)
      | inr s ↦ rw s (turns_grey b a.cells (white_where b a.cells e))
    ]
only-shade shape n a b false e h y k = stays_grey b a.cells y (h.only_grey y k)

once-shade : (shape : HeapShape) (n : ℕ) (a : Account) (b : ℕ) (t : Bool) → has_white b a.cells ≡ t → Tidy shape n a
    → Distinct (grey_after t a.grey b)
once-shade shape n a b true e h =
    Distinct-push a.grey b h.once (λ k.
    let p = h.only_grey b k in
    let q = white_where b a.cells e in
    let r : Grey ≡ White = one_colour shape n a h p.0 q.0 b Grey White p.1 q.1 in
    cc)
once-shade shape n a b false e h = h.once

tint-free_by : (a b : ℕ) (t : Bool) → (if t then Taken a Grey else Taken a White) ≡ Free → ⊥
tint-free_by a b true e = cc
tint-free_by a b false e = cc

tint-free : (b : ℕ) (x : Cell) → tint b x ≡ Free → x ≡ Free
tint-free b Free e = refl
tint-free b (Taken a White) e = absurd (tint-free_by a b (nat_eq a b) e)
tint-free b (Taken a Grey) e = absurd (cc)
tint-free b (Taken a Black) e = absurd (cc)

pub tidy-shade : (shape : HeapShape) (n : ℕ) (a : Account) (b : ℕ) (t : Bool) → has_white b a.cells ≡ t → Tidy shape n a
    → Tidy shape n (record a { cells = map (tint b) a.cells; grey = grey_after t a.grey b })
tidy-shade shape n a b t e h =
    let d = tinted_darker b a.cells in
    record {
      sized = length-cells (tint b) a.cells ∙ h.sized;
      one = λ c c' y x z k l. (let p = held_before d c y x k
          in let q = held_before d c' y z l in h.one c c' y p.0 q.0 p.1 q.1);
      some = λ c x k. (let p = held_before d c 0 x k in h.some c p.0 p.1);
      born = λ c y x k. (let p = held_before d c y x k in h.born c y p.0 p.1);
      listed = listed-shade shape n a b t e h;
      only_grey = only-shade shape n a b t e h;
      once = once-shade shape n a b t e h;
      small = spare-map (tint b) refl (tint-free b) a.cells _ _ a.small h.small;
      medium = spare-map (tint b) refl (tint-free b) a.cells _ _ a.medium h.medium;
      large = spare-map (tint b) refl (tint-free b) a.cells _ _ a.large h.large;
    }

-- a cell that is kept after the shading was kept before
pub kept_before : (shape : HeapShape) (n : ℕ) (a : Account) (b : ℕ) → Tidy shape n a → HasKept a.phase a.cells b
    → (c y : ℕ) (x : Colour) → cell_at (map (tint b) a.cells) c ≡ Taken y x → Kept a.phase c x → (z : Colour)
    × (cell_at a.cells c ≡ Taken y z) × Kept a.phase c z
kept_before shape n a b h k c y x e kept =
    elim (before (tinted_darker b a.cells) c y x e) [
      | inl s ↦ (x, s, kept)
      | inr s ↦ (
          let same : k.cell ≡ c = h.one k.cell c b k.colour White k.held s.2 in
          let held : cell_at a.cells c ≡ Taken y k.colour = cc (ap (cell_at a.cells) same) in
          (k.colour, held, rw same at k.kept))
    ]

pub fronted_before : (phase : Phase) (grey : List ℕ) (b : ℕ) (t : Bool) (x k : ℕ) → Begun phase grey
    → Fronted phase (grey_after t grey b) x k → Fronted phase grey x k
fronted_before (Mark q) (y ∷ ys) b true x k g h = h
fronted_before (Mark q) (y ∷ ys) b false x k g h = h
fronted_before (Mark q) [] b true x k g h = omega arith
fronted_before (Mark q) [] b false x k g h = h
fronted_before Idle grey b t x k g h = h
fronted_before (Statics s) grey b t x k g h = h
fronted_before (Frames u d j) grey b t x k g h = h
fronted_before (Append p) grey b t x k g h = h

pub begun_after : (phase : Phase) (grey : List ℕ) (b : ℕ) (t : Bool) → Begun phase grey
    → Begun phase (grey_after t grey b)
begun_after (Mark q) (y ∷ ys) b true g = tt
begun_after (Mark q) (y ∷ ys) b false g = tt
begun_after (Mark q) [] b true g = tt
begun_after (Mark q) [] b false g = g
begun_after Idle grey b t g = tt
begun_after (Statics s) grey b t g = tt
begun_after (Frames u d j) grey b t g = tt
begun_after (Append p) grey b t g = tt

pub black_before : (b : ℕ) (cells : List Cell) (c y : ℕ) → cell_at (map (tint b) cells) c ≡ Taken y Black
    → cell_at cells c ≡ Taken y Black
black_before b cells c y e = elim (before (tinted_darker b cells) c y Black e) [ inl s ↦ s | inr s ↦ absurd (cc) ]

pub shade_keeps : (shape : HeapShape) (w : World) (n : ℕ) (a : Account) (b : ℕ) → HasKept a.phase a.cells b
    → Invariant shape w n a → Invariant shape w n (shade a b)
unfolding shade
shade_keeps shape w n a b k i =
    let d = tinted_darker b a.cells in
    let t = has_white b a.cells in
    record {
      tidy = tidy-shade shape n a b t refl i.tidy;
      roots = λ p b' e. darker_kept d a.phase b' (i.roots p b' e);
      words = λ c x y j b' e kept f. (let o = kept_before shape n a b i.tidy k c x y e kept
          in darker_kept d a.phase b' (i.words c x o.0 j b' o.1 o.2 f));
      scanned = λ p b' s e. darker_not_white d b' (i.scanned p b' s e);
      unblack = λ c x e u. i.unblack c x (black_before b a.cells c x e) u;
      marked = λ c x j b' m e f. darker_not_white d b' (i.marked c x j b' m (black_before b a.cells c x e) f);
      front = λ x j b' f e. darker_not_white d b' (i.front x j b' (fronted_before a.phase a.grey b t x j i.begun f) e);
      begun = begun_after a.phase a.grey b t i.begun;
    }

-- ---- what shading leaves of an account

pub shade_not_white : (a : Account) (b : ℕ) → NotWhite (shade a b).cells b
unfolding shade
shade_not_white a b = tinted_not_white b a.cells

pub shade_darker : (a : Account) (b : ℕ) → Darker b a.cells (shade a b).cells
unfolding shade
shade_darker a b = tinted_darker b a.cells

pub shade_phase : (a : Account) (b : ℕ) → (shade a b).phase ≡ a.phase
unfolding shade
shade_phase a b = refl

-- ---- shading a list

pub kept_in_shade : (a : Account) (b c : ℕ) → HasKept a.phase a.cells c → HasKept (shade a b).phase (shade a b).cells c
kept_in_shade a b c k = rw (shade_phase a b) (darker_kept (shade_darker a b) a.phase c k)

pub kept_in_all : (bs : List ℕ) (a : Account) (c : ℕ) → HasKept a.phase a.cells c
    → HasKept (shade_all a bs).phase (shade_all a bs).cells c
kept_in_all [] a c k = k
kept_in_all (b ∷ bs) a c k = kept_in_all bs (shade a b) c (kept_in_shade a b c k)

pub not_white_in_all : (bs : List ℕ) (a : Account) (c : ℕ) → NotWhite a.cells c → NotWhite (shade_all a bs).cells c
not_white_in_all [] a c k = k
not_white_in_all (b ∷ bs) a c k = not_white_in_all bs (shade a b) c (darker_not_white (shade_darker a b) c k)

pub shaded_not_white : (bs : List ℕ) (a : Account) (c : ℕ) → In c bs → NotWhite (shade_all a bs).cells c
shaded_not_white [] a c h = absurd h
shaded_not_white (b ∷ bs) a c (inl e) = not_white_in_all bs (shade a b) c (rw e (shade_not_white a b))
shaded_not_white (b ∷ bs) a c (inr h) = shaded_not_white bs (shade a b) c h

pub shade_all_keeps : (shape : HeapShape) (w : World) (n : ℕ) (bs : List ℕ) (a : Account)
    → ((c : ℕ) → In c bs → HasKept a.phase a.cells c) → Invariant shape w n a → Invariant shape w n (shade_all a bs)
shade_all_keeps shape w n [] a k i = i
shade_all_keeps shape w n (b ∷ bs) a k i = shade_all_keeps shape w n bs (shade a b)
    (λ c h. kept_in_shade a b c (k c (inr h))) (shade_keeps shape w n a b (k b (inl refl)) i)
