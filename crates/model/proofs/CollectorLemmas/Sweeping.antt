use Rattle.std.proofs.Common.{◌≡◌, ◌⊎◌, inl, inr, ℕ, ◌+◌, ◌<◌, ◌≤◌, Bool, true, false, List, [], ◌∷◌, ◌++◌, length, set}
use Rattle.std.proofs.Common.{Some, nat_lt, refl, sym, ◌∙◌, ap, arith, ltb-true, ltb-false, length-set}
use Rattle.model.specs.declared.colours.Colour.{Colour}
use Rattle.model.specs.declared.colours.Colour.TheVariants.{White, Grey, Black}
use Rattle.model.specs.declared.colours.Phase.TheVariants.{Idle, Append}
use Rattle.model.specs.declared.journals.HeapShape.{HeapShape}
use Rattle.model.specs.Accounts.{Account}
use Rattle.model.specs.declared.colours.Cell.{Cell}
use Rattle.model.specs.declared.colours.Cell.TheVariants.{Free, Taken}
use Rattle.model.specs.Worlds.{World}
use Rattle.model.specs.Collector.Places.{word_at}
use Rattle.model.specs.Collector.Table.{cell_at, at_phase, listed_in, with_cell, swept, append_step, step_in}
use Rattle.model.specs.Collector.Invariant.{Kept, HasKept, Spare, Tidy, Invariant}
use Rattle.model.proofs.CollectorLemmas.Cells.{cell_at-set_cases, cell_at-set_other, taken_within}
use Rattle.model.proofs.CollectorLemmas.Spares.{spare-unfit, spare-set, spare-freed, tidy-phase}

-- the steps of appending keep the invariant

kept_on : (p c : ℕ) (x : Colour) → Kept (Append p) c x → Kept (Append (p + 1)) c x
kept_on p c White h = omega arith
kept_on p c Grey h = tt
kept_on p c Black h = tt

-- of another cell than p
pub kept_back : (p c : ℕ) (x : Colour) → (c ≡ p → ⊥) → Kept (Append (p + 1)) c x → Kept (Append p) c x
kept_back p c White ne h = grind arith
kept_back p c Grey ne h = tt
kept_back p c Black ne h = tt

unblack_back : (p c : ℕ) → (c ≡ p → ⊥) → c < p + 1 → c < p
unblack_back p c ne h = grind arith

-- a free cell and a grey one are left
leave_keeps : (shape : HeapShape) (w : World) (n : ℕ) (a : Account) (p : ℕ)
    → ((b : ℕ) → cell_at a.cells p ≡ Taken b White → ⊥) → ((b : ℕ) → cell_at a.cells p ≡ Taken b Black → ⊥)
    → Invariant shape w n (at_phase a (Append p)) → Invariant shape w n (at_phase a (Append (p + 1)))
leave_keeps shape w n a p no_white no_black i = record {
  tidy = tidy-phase shape n (at_phase a (Append p)) (Append (p + 1)) i.tidy;
  roots = λ q b e. (let k = i.roots q b e in record {
    cell = k.cell;
    colour = k.colour;
    held = k.held;
    kept = kept_on p k.cell k.colour k.kept;
  });
  words = λ c b x k b' h kept e. (let m = i.words c b x k b' h (back c b x h kept) e
      in record {
        cell = m.cell;
        colour = m.colour;
        held = m.held;
        kept = kept_on p m.cell m.colour m.kept;
      });
  scanned = λ q b s e. absurd s;
  unblack = λ c b h u. (let ne : c ≡ p → ⊥ = (λ e. let s = ap (cell_at a.cells) e in no_black b (sym s ∙ h))
      in i.unblack c b h (unblack_back p c ne u));
  marked = λ c b k b' m h e. absurd m;
  front = λ b k b' f e. absurd f;
  begun = tt;
}
  where
    back : (c b : ℕ) (x : Colour) → cell_at a.cells c ≡ Taken b x → Kept (Append (p + 1)) c x → Kept (Append p) c x
    back c b White h kept = kept_back p c White (λ e. let s = ap (cell_at a.cells) e in no_white b (sym s ∙ h)) kept
    back c b Grey h kept = tt
    back c b Black h kept = tt

-- ---- a white cell is given back

pub freed_before : (cells : List Cell) (p : ℕ) → p < length cells → (c a : ℕ) (x : Colour)
    → cell_at (set cells p Free) c ≡ Taken a x → (c ≡ p → ⊥) × (cell_at cells c ≡ Taken a x)
freed_before cells p lt c a x k = elim (cell_at-set_cases cells p c Free lt) [
  | inl s ↦ (let z = s.1 in absurd (cc))
  | inr s ↦ (s.0, (let z = s.1 in cc))
]

freed_after : (cells : List Cell) (p b : ℕ) (v : Colour) → cell_at cells p ≡ Taken b v → (c a : ℕ) (x : Colour)
    → (x ≡ v → ⊥) → cell_at cells c ≡ Taken a x → cell_at (set cells p Free) c ≡ Taken a x
freed_after cells p b v e c a x ne k = rw (cell_at-set_other cells p c Free
    (λ s. let z = ap (cell_at cells) s in ne cc)) k

grey_white : Grey ≡ White → ⊥
grey_white e = cc

-- an account whose cell p was given back
abbrev freed : Account → ℕ → List ℕ → List ℕ → List ℕ → Account
freed a p small medium large = record a {
  cells = set a.cells p Free;
  small = small;
  medium = medium;
  large = large;
  phase = Append (p + 1);
}

tidy-freed : (shape : HeapShape) (n : ℕ) (a : Account) (p b : ℕ) (s m l : List ℕ) → cell_at a.cells p ≡ Taken b White
    → Spare (set a.cells p Free) 0 shape.small s → Spare (set a.cells p Free) shape.small (shape.small + shape.medium) m
    → Spare (set a.cells p Free) (shape.small + shape.medium) (shape.small + shape.medium + shape.large) l
    → Tidy shape n (at_phase a (Append p)) → Tidy shape n (freed a p s m l)
tidy-freed shape n a p b s m l e small medium large h =
    let was = freed_before a.cells p (taken_within a.cells p b White e) in
    record {
      sized = length-set a.cells p Free ∙ h.sized;
      one = λ c d y x z k j. h.one c d y x z (was c y x k).1 (was d y z j).1;
      some = λ c x k. h.some c x (was c 0 x k).1;
      born = λ c y x k. h.born c y x (was c y x k).1;
      listed = λ y c k. h.listed y c (was c y Grey k).1;
      only_grey = λ y k. (let q = h.only_grey y k in (q.0, freed_after a.cells p b White e q.0 y Grey grey_white q.1));
      once = h.once;
      small = small;
      medium = medium;
      large = large;
    }

freed_kept : (cells : List Cell) (p b a : ℕ) → cell_at cells p ≡ Taken b White → HasKept (Append p) cells a
    → HasKept (Append (p + 1)) (set cells p Free) a
freed_kept cells p b a e k =
    let ne : k.cell ≡ p → ⊥ = (λ s. not_here k.colour s k.held k.kept) in
    record {
      cell = k.cell;
      colour = k.colour;
      held = rw (cell_at-set_other cells p k.cell Free ne) k.held;
      kept = kept_on p k.cell k.colour k.kept;
    }
  where
    not_here : (x : Colour) → k.cell ≡ p → cell_at cells k.cell ≡ Taken a x → Kept (Append p) k.cell x → ⊥
    not_here White s h kept = omega arith
    not_here Grey s h kept = let z = ap (cell_at cells) s in cc
    not_here Black s h kept = let z = ap (cell_at cells) s in cc

freed_keeps : (shape : HeapShape) (w : World) (n : ℕ) (a : Account) (p b : ℕ) (s m l : List ℕ) → cell_at a.cells p
    ≡ Taken b White → Tidy shape n (freed a p s m l) → Invariant shape w n (at_phase a (Append p))
    → Invariant shape w n (freed a p s m l)
freed_keeps shape w n a p b s m l e tidy i =
    let was = freed_before a.cells p (taken_within a.cells p b White e) in
    record {
      tidy = tidy;
      roots = λ q x r. freed_kept a.cells p b x e (i.roots q x r);
      words = λ c x y k b' h kept r. freed_kept a.cells p b b' e
          (i.words c x y k b' (was c x y h).1 (kept_back p c y (was c x y h).0 kept) r);
      scanned = λ q x r f. absurd r;
      unblack = λ c x h u. i.unblack c x (was c x Black h).1 (unblack_back p c (was c x Black h).0 u);
      marked = λ c x k b' r h f. absurd r;
      front = λ x k b' f r. absurd f;
      begun = tt;
    }

-- into the free list of its size
freed_by : (shape : HeapShape) (w : World) (n : ℕ) (a : Account) (p b : ℕ) (x y : Bool) → nat_lt p shape.small ≡ x
    → nat_lt p (shape.small + shape.medium) ≡ y → cell_at a.cells p ≡ Taken b White
    → Invariant shape w n (at_phase a (Append p))
    → Invariant shape w n (at_phase (listed_in (with_cell a p Free) p x y) (Append (p + 1)))
freed_by shape w n a p b x y ex ey e i = go x y ex ey
  where
    taken : cell_at a.cells p ≡ Free → ⊥
    taken h = cc

    within : p < length a.cells
    within = taken_within a.cells p b White e

    go : (x y : Bool) → nat_lt p shape.small ≡ x → nat_lt p (shape.small + shape.medium) ≡ y
        → Invariant shape w n (at_phase (listed_in (with_cell a p Free) p x y) (Append (p + 1)))
    go true y ex ey =
        let below = ltb-true p _ ex in
        let list = spare-freed a.cells p _ _ a.small within taken (omega arith) below i.tidy.small in
        freed_keeps shape w n a p b (a.small ++ p ∷ []) a.medium a.large e (tidy-freed shape n a p b (a.small ++ p ∷ [])
        a.medium a.large e list (spare-unfit a.cells p Free _ _ a.medium
        (λ k. let l = k.0 in omega arith) i.tidy.medium)
        (spare-unfit a.cells p Free _ _ a.large
        (λ k. let l = k.0 in omega arith) i.tidy.large) i.tidy) i
    go false true ex ey =
        let above = ltb-false p _ ex in
        let below = ltb-true p _ ey in
        let list = spare-freed a.cells p _ _ a.medium within taken above below i.tidy.medium in
        freed_keeps shape w n a p b a.small (a.medium ++ p ∷ []) a.large e (tidy-freed shape n a p b a.small (a.medium
        ++ p ∷ []) a.large e (spare-unfit a.cells p Free _ _ a.small
        (λ k. let u = k.1 in omega arith) i.tidy.small) list
        (spare-unfit a.cells p Free _ _ a.large
        (λ k. let l = k.0 in omega arith) i.tidy.large) i.tidy) i
    go false false ex ey =
        let above = ltb-false p _ ey in
        let past : p < shape.small + shape.medium + shape.large = (let
        s = i.tidy.sized in let lt = within in omega arith) in
        let list = spare-freed a.cells p _ _ a.large within taken above past i.tidy.large in
        freed_keeps shape w n a p b a.small a.medium (a.large ++ p ∷ []) e (tidy-freed shape n a p b a.small a.medium
        (a.large ++ p ∷ []) e
        (spare-unfit a.cells p Free _ _ a.small
        (λ k. let u = k.1 in omega arith) i.tidy.small) (spare-unfit a.cells p Free _ _ a.medium
        (λ k. let u = k.1 in omega arith) i.tidy.medium) list i.tidy) i

-- ---- a black cell turns white

pub white_before : (cells : List Cell) (p b : ℕ) → cell_at cells p ≡ Taken b Black → (c a : ℕ) (x : Colour)
    → cell_at (set cells p (Taken b White)) c ≡ Taken a x → ((c ≡ p) × (a ≡ b) × (x ≡ White)) ⊎ ((c ≡ p → ⊥)
    × (cell_at cells c ≡ Taken a x))
white_before cells p b e c a x k = elim (cell_at-set_cases cells p c (Taken b White) (taken_within cells p b Black e)) [
  | inl s ↦ (let z = s.1 in inl (s.0, cc, cc))
  | inr s ↦ inr (s.0, (let z = s.1 in cc))
]

pub white_held : (cells : List Cell) (p b : ℕ) → cell_at cells p ≡ Taken b Black → (c a : ℕ) (x : Colour)
    → cell_at (set cells p (Taken b White)) c ≡ Taken a x → (y : Colour) × (cell_at cells c ≡ Taken a y)
white_held cells p b e c a x k = elim (white_before cells p b e c a x k) [
  | inl s ↦ (let s0 = s.0 in let s1 = s.1 in let z = ap (cell_at cells) s0 in (Black, cc))
  | inr s ↦ (x, s.1)
]

abbrev whitened : Account → ℕ → ℕ → Account
whitened a p b = record a { cells = set a.cells p (Taken b White); phase = Append (p + 1) }

tidy-whitened : (shape : HeapShape) (n : ℕ) (a : Account) (p b : ℕ) → cell_at a.cells p ≡ Taken b Black
    → Tidy shape n (at_phase a (Append p)) → Tidy shape n (whitened a p b)
tidy-whitened shape n a p b e h =
    let held = white_held a.cells p b e in
    let taken : cell_at a.cells p ≡ Free → ⊥ = (λ k. cc) in
    let within = taken_within a.cells p b Black e in
    record {
      sized = length-set a.cells p (Taken b White) ∙ h.sized;
      one = λ c d y x z k l. h.one c d y (held c y x k).0 (held d y z l).0 (held c y x k).1 (held d y z l).1;
      some = λ c x k. h.some c (held c 0 x k).0 (held c 0 x k).1;
      born = λ c y x k. h.born c y (held c y x k).0 (held c y x k).1;
      listed = λ y c k. elim (white_before a.cells p b e c y Grey k) [
        | inl s ↦ (let z = s.2 in absurd (cc))
        | inr s ↦ h.listed y c s.1
      ];
      only_grey = λ y k. (let q = h.only_grey y k
          in (
            q.0,
            rw (cell_at-set_other a.cells p q.0 (Taken b White)
                (λ s. let z = ap (cell_at a.cells) s in let g = q.1 in cc)) (q.1),
          ));
      once = h.once;
      small = spare-set a.cells p b White _ _ a.small within taken h.small;
      medium = spare-set a.cells p b White _ _ a.medium within taken h.medium;
      large = spare-set a.cells p b White _ _ a.large within taken h.large;
    }

whitened_kept : (cells : List Cell) (p b a : ℕ) → cell_at cells p ≡ Taken b Black → HasKept (Append p) cells a
    → HasKept (Append (p + 1)) (set cells p (Taken b White)) a
whitened_kept cells p b a e k = elim (cell_at-set_cases cells p k.cell (Taken b White) (taken_within cells p b Black e)) [
  | inl s ↦ (let s0 = s.0 in let s1 = s.1 in let z = ap (cell_at cells) s0
      in let hh = k.held in let same : b ≡ a = cc in
      record { cell = k.cell; colour = White; held = rw (← same) s.1; kept = omega arith })
  | inr s ↦ record { cell = k.cell; colour = k.colour; held = s.1 ∙ k.held; kept = kept_on p k.cell k.colour k.kept }
]

words-whitened : (shape : HeapShape) (w : World) (n : ℕ) (a : Account) (p b : ℕ) → cell_at a.cells p ≡ Taken b Black
    → Invariant shape w n (at_phase a (Append p)) → (c x : ℕ) (y : Colour) (k b' : ℕ)
    → cell_at (set a.cells p (Taken b White)) c ≡ Taken x y → Kept (Append (p + 1)) c y → word_at w x k ≡ Some b'
    → HasKept (Append p) a.cells b'
words-whitened shape w n a p b e i c x y k b' h kept r = elim (white_before a.cells p b e c x y h) [
  | inl s ↦ (let s1 = s.1 in let z = ap (λ v. word_at w v k) s1 in i.words p b Black k b' e tt (cc))
  | inr s ↦ i.words c x y k b' s.1 (kept_back p c y s.0 kept) r
]

whitened_keeps : (shape : HeapShape) (w : World) (n : ℕ) (a : Account) (p b : ℕ) → cell_at a.cells p ≡ Taken b Black
    → Invariant shape w n (at_phase a (Append p)) → Invariant shape w n (whitened a p b)
whitened_keeps shape w n a p b e i = record {
  tidy = tidy-whitened shape n a p b e i.tidy;
  roots = λ q x r. whitened_kept a.cells p b x e (i.roots q x r);
  words = λ c x y k b' h kept r. whitened_kept a.cells p b b' e (words-whitened shape w n a p b e i c x y k b' h kept
      r);
  scanned = λ q x s r. absurd s;
  unblack = λ c x h u. elim (white_before a.cells p b e c x Black h) [
    | inl s ↦ (let z = s.2 in cc)
    | inr s ↦ i.unblack c x s.1 (unblack_back p c s.0 u)
  ];
  marked = λ c x k b' m h r. absurd m;
  front = λ x k b' f r. absurd f;
  begun = tt;
}

-- ---- past the last cell

append_end : (shape : HeapShape) (w : World) (n : ℕ) (a : Account) (p : ℕ) → length a.cells ≤ p
    → Invariant shape w n (at_phase a (Append p)) → Invariant shape w n (at_phase a Idle)
append_end shape w n a p l i = record {
  tidy = tidy-phase shape n (at_phase a (Append p)) Idle i.tidy;
  roots = λ q b e. (let k = i.roots q b e in record { cell = k.cell; colour = k.colour; held = k.held; kept = tt });
  words = λ c b x k b' h kept e. (let m = i.words c b x k b' h (all_kept c b x h) e
      in record { cell = m.cell; colour = m.colour; held = m.held; kept = tt });
  scanned = λ q b s e. absurd s;
  unblack = λ c b h u. (let lt = taken_within a.cells c b Black h in i.unblack c b h (omega arith));
  marked = λ c b k b' m h e. absurd m;
  front = λ b k b' f e. absurd f;
  begun = tt;
}
  where
    all_kept : (c b : ℕ) (x : Colour) → cell_at a.cells c ≡ Taken b x → Kept (Append p) c x
    all_kept c b White h = let lt = taken_within a.cells c b White h in omega arith
    all_kept c b Grey h = tt
    all_kept c b Black h = tt

swept_by : (shape : HeapShape) (w : World) (n : ℕ) (a : Account) (p : ℕ) (x : Cell) → cell_at a.cells p ≡ x
    → Invariant shape w n (at_phase a (Append p))
    → Invariant shape w n (at_phase (swept shape (at_phase a (Append p)) p x) (Append (p + 1)))
swept_by shape w n a p Free e i = leave_keeps shape w n a p (λ b h. cc) (λ b h. cc) i
swept_by shape w n a p (Taken b White) e i = freed_by shape w n (at_phase a (Append p)) p b _ _ refl refl e i
swept_by shape w n a p (Taken b Grey) e i = leave_keeps shape w n a p (λ b h. cc) (λ b h. cc) i
swept_by shape w n a p (Taken b Black) e i = whitened_keeps shape w n a p b e i

append_by : (shape : HeapShape) (w : World) (n : ℕ) (a : Account) (p : ℕ) (more : Bool) → nat_lt p (length a.cells)
    ≡ more → Invariant shape w n (at_phase a (Append p))
    → Invariant shape w n (append_step shape (at_phase a (Append p)) p more)
append_by shape w n a p true e i = swept_by shape w n a p (cell_at a.cells p) refl i
append_by shape w n a p false e i = append_end shape w n a p (ltb-false p _ e) i

pub append_keeps : (shape : HeapShape) (w : World) (n : ℕ) (a : Account) (p : ℕ)
    → Invariant shape w n (at_phase a (Append p))
    → Invariant shape w n (step_in shape w (at_phase a (Append p)) (Append p))
append_keeps shape w n a p i = append_by shape w n a p (nat_lt p (length a.cells)) refl i
