use Rattle.std.proofs.Common.{◌≡◌, ◌⊎◌, inl, inr, ℕ, ◌+◌, ◌<◌, ◌≤◌, Bool, true, false, List, [], ◌∷◌, ◌++◌, length, set}
use Rattle.std.proofs.Common.{Option, Some, nat_le, refl, sym, ◌∙◌, ap, arith, length-set}
use Rattle.model.specs.declared.colours.Colour.{Colour}
use Rattle.model.specs.declared.colours.Colour.TheVariants.{White, Grey, Black}
use Rattle.model.specs.declared.journals.HeapShape.{HeapShape}
use Rattle.model.specs.Accounts.{Account, first_cell, or_larger, take_cell, placed}
use Rattle.model.specs.declared.colours.Cell.{Cell}
use Rattle.model.specs.declared.colours.Cell.TheVariants.{Free, Taken}
use Rattle.model.specs.Collector.Table.{cell_at}
use Rattle.model.specs.Collector.Invariant.{In, Distinct, Spare, Tidy}
use Rattle.model.proofs.CollectorLemmas.Lists.{In-left, In-last, In-push_cases, Distinct-push}
use Rattle.model.proofs.CollectorLemmas.Spares.{spare-unfit, spare-taken}
use Rattle.model.proofs.CollectorLemmas.Cells.{cell_at-set_cases, cell_at-set_same}

-- a free cell is taken from the front of a list, and a birth comes into it

-- an account with other lists of free cells
abbrev pub relisted : Account → List ℕ → List ℕ → List ℕ → Account
relisted a small medium large = record a { small = small; medium = medium; large = large }

-- the cells after birth n came into the free cell c
pub record Came (n c : ℕ) (colour : Colour) (old new : List Cell) : Type 0 where
  pub here : cell_at new c ≡ Taken n colour
  pub at : (d : ℕ) → ((d ≡ c) × (cell_at new d ≡ Taken n colour)) ⊎ ((d ≡ c → ⊥) × (cell_at new d ≡ cell_at old d))
  pub was : cell_at old c ≡ Free

pub came_before : (n c : ℕ) (colour : Colour) (old new : List Cell) → Came n c colour old new → (d b : ℕ) (x : Colour)
    → cell_at new d ≡ Taken b x → ((d ≡ c) × (b ≡ n) × (x ≡ colour)) ⊎ (cell_at old d ≡ Taken b x)
came_before n c colour old new h d b x e = elim (h.at d) [ inl s ↦ inl (s.0, cc, cc) | inr s ↦ inr cc ]

pub came_after : (n c : ℕ) (colour : Colour) (old new : List Cell) → Came n c colour old new → (d b : ℕ) (x : Colour)
    → cell_at old d ≡ Taken b x → cell_at new d ≡ Taken b x
came_after n c colour old new h d b x e = elim (h.at d) [
  | inl s ↦ (let k = ap (cell_at old) s.0 in let r = h.was in absurd (cc))
  | inr s ↦ cc
]

pub came_here : (n c : ℕ) (colour : Colour) (cells : List Cell) → c < length cells → cell_at cells c ≡ Free
    → Came n c colour cells (set cells c (Taken n colour))
came_here n c colour cells lt f = record {
  here = cell_at-set_same cells c (Taken n colour) lt;
  at = λ d. cell_at-set_cases cells c d (Taken n colour) lt;
  was = f;
}

one-came : (n c : ℕ) (colour : Colour) (old new : List Cell) → Came n c colour old new
    → ((d b : ℕ) (x : Colour) → cell_at old d ≡ Taken b x → b < n)
    → ((d e b : ℕ) (x y : Colour) → cell_at old d ≡ Taken b x → cell_at old e ≡ Taken b y → d ≡ e)
    → (d e b : ℕ) (x y : Colour) → cell_at new d ≡ Taken b x → cell_at new e ≡ Taken b y → d ≡ e
one-came n c colour old new h born one d e b x y k l =
    elim (came_before n c colour old new h d b x k) [
      | inl s ↦ elim (came_before n c colour old new h e b y l) [
        | inl r ↦ cc
        | inr r ↦ (let lt = born e b y r in absurd (omega arith))
      ]
      | inr s ↦ elim (came_before n c colour old new h e b y l) [
        | inl r ↦ (let lt = born d b x s in absurd (omega arith))
        | inr r ↦ one d e b x y s r
      ]
    ]

-- the grey list after a birth of this colour came
abbrev pub grey_with : Colour → List ℕ → ℕ → List ℕ
grey_with White grey n = grey
grey_with Grey grey n = grey ++ n ∷ []
grey_with Black grey n = grey

-- the account after birth n came into the cell that was taken
abbrev pub came_in : Account → ℕ → ℕ → Colour → Account
came_in a c n colour = record a { cells = set a.cells c (Taken n colour); grey = grey_with colour a.grey n }

listed-came : (shape : HeapShape) (n : ℕ) (a : Account) (c : ℕ) (colour : Colour)
    → Came n c colour a.cells (set a.cells c (Taken n colour)) → Tidy shape n a → (b d : ℕ)
    → cell_at (set a.cells c (Taken n colour)) d ≡ Taken b Grey → In b (grey_with colour a.grey n)
listed-came shape n a c White came h b d k = elim (came_before n c White _ _ came d b Grey k) [
  | inl s ↦ (let z = s.2 in absurd (cc))
  | inr s ↦ h.listed b d s
]
listed-came shape n a c Grey came h b d k = elim (came_before n c Grey _ _ came d b Grey k) [
  | inl s ↦ rw s.1 (In-last a.grey n)
  | inr s ↦ In-left a.grey (n ∷ []) b (h.listed b d s)
]
listed-came shape n a c Black came h b d k = elim (came_before n c Black _ _ came d b Grey k) [
  | inl s ↦ (let z = s.2 in absurd (cc))
  | inr s ↦ h.listed b d s
]

stays_grey : (shape : HeapShape) (n : ℕ) (a : Account) (c : ℕ) (colour : Colour)
    → Came n c colour a.cells (set a.cells c (Taken n colour)) → Tidy shape n a → (b : ℕ) → In b a.grey → (d : ℕ)
    × (cell_at (set a.cells c (Taken n colour)) d ≡ Taken b Grey)
stays_grey shape n a c colour came h b k = let p = h.only_grey b k
    in (p.0, came_after n c colour _ _ came p.0 b Grey p.1)

only-came : (shape : HeapShape) (n : ℕ) (a : Account) (c : ℕ) (colour : Colour)
    → Came n c colour a.cells (set a.cells c (Taken n colour)) → Tidy shape n a → (b : ℕ)
    → In b (grey_with colour a.grey n) → (d : ℕ) × (cell_at (set a.cells c (Taken n colour)) d ≡ Taken b Grey)
only-came shape n a c White came h b k = stays_grey shape n a c White came h b k
only-came shape n a c Grey came h b k = elim (In-push_cases a.grey n b k) [
  | inl r ↦ stays_grey shape n a c Grey came h b r
  | inr e ↦ (c, rw e came.here)
]
only-came shape n a c Black came h b k = stays_grey shape n a c Black came h b k

once-came : (shape : HeapShape) (n : ℕ) (a : Account) (colour : Colour) → Tidy shape n a
    → Distinct (grey_with colour a.grey n)
once-came shape n a White h = h.once
once-came shape n a Grey h = Distinct-push a.grey n h.once
    (λ k. let p = h.only_grey n k in let lt = h.born p.0 n Grey p.1 in omega arith)
once-came shape n a Black h = h.once

-- the birth comes, and the lists of free cells are right after it
tidy-came : (shape : HeapShape) (n : ℕ) (a : Account) (c : ℕ) (colour : Colour) (s m l : List ℕ) → 1 ≤ n
    → cell_at a.cells c ≡ Free → c < length a.cells → Spare (set a.cells c (Taken n colour)) 0 shape.small s
    → Spare (set a.cells c (Taken n colour)) shape.small (shape.small + shape.medium) m
    → Spare (set a.cells c (Taken n colour)) (shape.small + shape.medium) (shape.small + shape.medium + shape.large) l
    → Tidy shape n a → Tidy shape (n + 1) (came_in (relisted a s m l) c n colour)
tidy-came shape n a c colour s m l le f lt small medium large h =
    let new = set a.cells c (Taken n colour) in
    let came = came_here n c colour a.cells lt f in
    record {
      sized = length-set a.cells c (Taken n colour) ∙ h.sized;
      one = one-came n c colour a.cells new came h.born h.one;
      some = λ d x k. elim (came_before n c colour a.cells new came d 0 x k) [
        | inl s ↦ (let z = s.1 in omega arith)
        | inr s ↦ h.some d x s
      ];
      born = λ d b x k. elim (came_before n c colour a.cells new came d b x k) [
        | inl s ↦ (let z = s.1 in omega arith)
        | inr s ↦ (let l = h.born d b x s in omega arith)
      ];
      listed = listed-came shape n a c colour came h;
      only_grey = only-came shape n a c colour came h;
      once = once-came shape n a colour h;
      small = small;
      medium = medium;
      large = large;
    }

-- ---- a cell is taken

-- what taking a cell gives: a free cell within the heap, and lists that are right once birth n came into it
pub record Takes (shape : HeapShape) (n : ℕ) (a : Account) (c : ℕ) (b : Account) : Type 0 where
  pub small : List ℕ
  pub medium : List ℕ
  pub large : List ℕ
  pub is : b ≡ relisted a small medium large
  pub tidy : (colour : Colour) → 1 ≤ n → Tidy shape (n + 1) (came_in (relisted a small medium large) c n colour)
  pub was_free : cell_at a.cells c ≡ Free
  pub within : c < length a.cells
  pub left : length a.small + length a.medium + length a.large ≡ length small + length medium + length large + 1

taken_from : (fits : Bool) (without : List ℕ → Account) (free : List ℕ) (larger : Option (ℕ × Account)) (r : ℕ
    × Account) → or_larger fits without (first_cell free) larger ≡ Some r
    → ((cs : List ℕ) × (free ≡ r.0 ∷ cs) × (r.1 ≡ without cs)) ⊎ (larger ≡ Some r)
taken_from true without (c ∷ cs) larger r e =
    let f : r.0 ≡ c = (let k : (c, without cs) ≡ r = cc in sym (ap (λ (p : ℕ × Account). p.0) k)) in
    let g : r.1 ≡ without cs = (let k : (c, without cs) ≡ r = cc in sym (ap (λ (p : ℕ × Account). p.1) k)) in
    inl (cs, rw f refl, g)
taken_from true without [] larger r e = inr e
taken_from false without free larger r e = inr e

takes_small : (shape : HeapShape) (n : ℕ) (a : Account) (c : ℕ) (cs : List ℕ) → a.small ≡ c ∷ cs → Tidy shape n a
    → Takes shape n a c (record a { small = cs })
takes_small shape n a c cs e h =
    let list : Spare a.cells 0 shape.small (c ∷ cs) = rw e at h.small in
    let fit = list.fits c (inl refl) in
    let within : c < length a.cells = (let s = h.sized in let u = fit.1 in omega arith) in
    record {
      small = cs;
      medium = a.medium;
      large = a.large;
      is = refl;
      tidy = λ colour le. tidy-came shape n a c colour cs a.medium a.large le (list.unused c (inl refl)) within
          (spare-taken a.cells c n colour _ _ cs within list)
          (spare-unfit a.cells c (Taken n colour) _ _ a.medium
          (λ k. let u = fit.1 in let l = k.0 in omega arith) h.medium)
          (spare-unfit a.cells c (Taken n colour) _ _ a.large
          (λ k. let u = fit.1 in let l = k.0 in omega arith) h.large) h;
      was_free = list.unused c (inl refl);
      within = within;
      left = (let k = ap length e in omega arith);
    }

takes_medium : (shape : HeapShape) (n : ℕ) (a : Account) (c : ℕ) (cs : List ℕ) → a.medium ≡ c ∷ cs → Tidy shape n a
    → Takes shape n a c (record a { medium = cs })
takes_medium shape n a c cs e h =
    let list : Spare a.cells shape.small (shape.small + shape.medium) (c ∷ cs) = rw e at h.medium in
    let fit = list.fits c (inl refl) in
    let within : c < length a.cells = (let s = h.sized in let u = fit.1 in omega arith) in
    record {
      small = a.small;
      medium = cs;
      large = a.large;
      is = refl;
      tidy = λ colour le. tidy-came shape n a c colour a.small cs a.large le (list.unused c (inl refl)) within
          (spare-unfit a.cells c (Taken n colour) _ _ a.small
          (λ k. let l = fit.0 in let u = k.1 in omega arith) h.small)
          (spare-taken a.cells c n colour _ _ cs within list)
          (spare-unfit a.cells c (Taken n colour) _ _ a.large
          (λ k. let u = fit.1 in let l = k.0 in omega arith) h.large) h;
      was_free = list.unused c (inl refl);
      within = within;
      left = (let k = ap length e in omega arith);
    }

takes_large : (shape : HeapShape) (n : ℕ) (a : Account) (c : ℕ) (cs : List ℕ) → a.large ≡ c ∷ cs → Tidy shape n a
    → Takes shape n a c (record a { large = cs })
takes_large shape n a c cs e h =
    let list : Spare a.cells (shape.small + shape.medium) (shape.small + shape.medium + shape.large) (c ∷ cs) = rw e at
    h.large in
    let fit = list.fits c (inl refl) in
    let within : c < length a.cells = (let s = h.sized in let u = fit.1 in omega arith) in
    record {
      small = a.small;
      medium = a.medium;
      large = cs;
      is = refl;
      tidy = λ colour le. tidy-came shape n a c colour a.small a.medium cs le (list.unused c (inl refl)) within
          (spare-unfit a.cells c (Taken n colour) _ _ a.small
          (λ k. let l = fit.0 in let u = k.1 in omega arith) h.small)
          (spare-unfit a.cells c (Taken n colour) _ _ a.medium
          (λ k. let l = fit.0 in let u = k.1 in omega arith) h.medium)
          (spare-taken a.cells c n colour _ _ cs within list) h;
      was_free = list.unused c (inl refl);
      within = within;
      left = (let k = ap length e in omega arith);
    }

-- whatever size the cell has
pub takes : (shape : HeapShape) (n : ℕ) (a : Account) (words : ℕ) (r : ℕ × Account) → take_cell a words ≡ Some r
    → Tidy shape n a → Takes shape n a r.0 r.1
takes shape n a words r e h =
    elim (taken_from (nat_le words 4) (λ cs. record a { small = cs }) a.small _ r e) [
      | inl k ↦ rw k.2 (takes_small shape n a r.0 k.0 k.1 h)
      | inr f ↦ elim (taken_from (nat_le words 32) (λ cs. record a { medium = cs }) a.medium _ r f) [
        | inl k ↦ rw k.2 (takes_medium shape n a r.0 k.0 k.1 h)
        | inr g ↦ elim (taken_from (nat_le words 256) (λ cs. record a { large = cs }) a.large _ r g) [
          | inl k ↦ rw k.2 (takes_large shape n a r.0 k.0 k.1 h)
          | inr n ↦ absurd (cc)
        ]
      ]
    ]

-- what `placed` comes to where a cell was taken
pub placed_is : (shape : HeapShape) (n : ℕ) (a : Account) (words : ℕ) (colour : Colour) (r : ℕ
    × Account) (t : Takes shape n a r.0 r.1) → take_cell a words ≡ Some r → placed a n words colour
    ≡ record (relisted a t.small t.medium t.large) { cells = set a.cells r.0 (Taken n colour) }
placed_is shape n a words colour r t e = rw (e, t.is) refl

-- an object of no words finds any free cell
pub room_for_none : (a : Account) (s m l : List ℕ) → 1 ≤ length s + length m + length l → (r : ℕ × Account)
    × (take_cell (relisted a s m l) 0 ≡ Some r)
room_for_none a (c ∷ s) m l h = ((c, relisted a s m l), refl)
room_for_none a [] (c ∷ m) l h = ((c, relisted a [] m l), refl)
room_for_none a [] [] (c ∷ l) h = ((c, relisted a [] [] l), refl)
room_for_none a [] [] [] h = absurd (omega arith)
