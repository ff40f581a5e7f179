use Rattle.std.proofs.Common.{◌≡◌, ◌⊎◌, inl, inr, ℕ, ◌+◌, ◌<◌, ◌≤◌, Bool, true, false, if◌then◌else◌, List, [], ◌∷◌}
use Rattle.std.proofs.Common.{length, map, Option, Some, None, nat_lt, nat_eq, refl, ◌∙◌, ap, ap₂, arith, ltb-false}
use Rattle.std.proofs.Common.{eqb-true, eq-eqb}
use Rattle.model.specs.declared.colours.Colour.{Colour}
use Rattle.model.specs.declared.colours.Colour.TheVariants.{White, Grey, Black}
use Rattle.model.specs.declared.colours.Phase.TheVariants.{Mark, Append}
use Rattle.model.specs.declared.journals.HeapShape.{HeapShape}
use Rattle.model.specs.Accounts.{Account, tint, has_white, shade}
use Rattle.model.specs.declared.colours.Cell.{Cell}
use Rattle.model.specs.declared.colours.Cell.TheVariants.{Free, Taken}
use Rattle.model.specs.Worlds.{World}
use Rattle.model.specs.Collector.Places.{word_at, words_of}
use Rattle.model.specs.Collector.Table.{cell_at, shade_ref, at_phase, blackened, word_step, step_in}
use Rattle.model.specs.Collector.Invariant.{Kept, Fronted, Begun, HasKept, NotWhite, Tidy, Invariant}
use Rattle.model.proofs.CollectorLemmas.Cells.{length-cells, cell_at-map, darker_not_white}
use Rattle.model.proofs.CollectorLemmas.Spares.{spare-map, tidy-phase}
use Rattle.model.proofs.CollectorLemmas.Shading.{grey_after, shade_keeps, shade_not_white, shade_darker}
use Rattle.model.proofs.CollectorLemmas.Bounds.{word_within}
use Rattle.model.proofs.CollectorLemmas.Scanning.{none_fronted, mark_begins}

-- the steps of marking keep the invariant

abbrev pub in_mark : Account → List ℕ → ℕ → Account
in_mark a grey q = record a { grey = grey; phase = Mark q }

-- ---- the end of marking

kept_of_not_white : (cells : List Cell) (b q : ℕ) → HasKept (Mark q) cells b → NotWhite cells b
    → HasKept (Append 0) cells b
kept_of_not_white cells b q k n = record {
  cell = k.cell;
  colour = k.colour;
  held = k.held;
  kept = dark k.colour k.held;
}
  where
    dark : (x : Colour) → cell_at cells k.cell ≡ Taken b x → Kept (Append 0) k.cell x
    dark White h = absurd (n.never k.cell h)
    dark Grey h = tt
    dark Black h = tt

-- with no grey birth left, the words of a cell that isn't white lead to none that is
words_at_end : (shape : HeapShape) (w : World) (n : ℕ) (a : Account) (q : ℕ) → Invariant shape w n (in_mark a [] q)
    → (c b : ℕ) (x : Colour) (k b' : ℕ) → cell_at a.cells c ≡ Taken b x → Kept (Append 0) c x → word_at w b k ≡ Some b'
    → HasKept (Append 0) a.cells b'
words_at_end shape w n a q i c b White k b' h kept e = absurd (omega arith)
words_at_end shape w n a q i c b Grey k b' h kept e = absurd (i.tidy.listed b c h)
words_at_end shape w n a q i c b Black k b' h kept e = kept_of_not_white a.cells b' q (i.words c b Black k b' h tt e)
    (i.marked c b k b' tt h e)

pub mark_end : (shape : HeapShape) (w : World) (n : ℕ) (a : Account) (q : ℕ) → Invariant shape w n (in_mark a [] q)
    → Invariant shape w n (record a { grey = []; phase = Append 0 })
mark_end shape w n a q i = record {
  tidy = tidy-phase shape n (in_mark a [] q) (Append 0) i.tidy;
  roots = λ p b e. kept_of_not_white a.cells b q (i.roots p b e) (i.scanned p b tt e);
  words = words_at_end shape w n a q i;
  scanned = λ p b s e. absurd s;
  unblack = λ c b h u. omega arith;
  marked = λ c b k b' m h e. absurd m;
  front = λ b k b' f e. absurd f;
  begun = tt;
}

-- ---- a word of the front birth

-- in Mark nothing but the words before q of the front speaks of q
mark_on : (shape : HeapShape) (w : World) (n : ℕ) (a : Account) (grey : List ℕ) (q r : ℕ)
    → ((b k b' : ℕ) → Fronted (Mark r) grey b k → word_at w b k ≡ Some b' → NotWhite a.cells b') → Begun (Mark r) grey
    → Invariant shape w n (in_mark a grey q) → Invariant shape w n (in_mark a grey r)
mark_on shape w n a grey q r f g i = record {
  tidy = tidy-phase shape n (in_mark a grey q) (Mark r) i.tidy;
  roots = λ p b e. (let k = i.roots p b e in record { cell = k.cell; colour = k.colour; held = k.held; kept = tt });
  words = λ c b x k b' h kept e. (let k = i.words c b x k b' h tt e in record {
    cell = k.cell;
    colour = k.colour;
    held = k.held;
    kept = tt;
  });
  scanned = λ p b s e. i.scanned p b tt e;
  unblack = λ c b h u. u;
  marked = λ c b k b' m h e. i.marked c b k b' tt h e;
  front = f;
  begun = g;
}

front_cases : (q y : ℕ) (rest : List ℕ) (b : ℕ) (t : Bool) (x k : ℕ)
    → Fronted (Mark (q + 1)) (grey_after t (y ∷ rest) b) x k → (x ≡ y) × (k < q + 1)
front_cases q y rest b true x k h = h
front_cases q y rest b false x k h = h

begun_cases : (q y : ℕ) (rest : List ℕ) (b : ℕ) (t : Bool) → Begun (Mark q) (grey_after t (y ∷ rest) b)
begun_cases q y rest b true = tt
begun_cases q y rest b false = tt

word_keeps : (shape : HeapShape) (w : World) (n : ℕ) (a : Account) (q y : ℕ) (rest : List ℕ) (r : Option ℕ)
    → word_at w y q ≡ r → Invariant shape w n (in_mark a (y ∷ rest) q)
    → Invariant shape w n (at_phase (shade_ref (in_mark a (y ∷ rest) q) r) (Mark (q + 1)))
unfolding shade
word_keeps shape w n a q y rest None e i =
    mark_on shape w n a (y ∷ rest) q (q + 1)
    (λ b k b' f h. (let c : (k < q) ⊎ (k ≡ q) = (let lt = f.1 in grind arith) in elim c [
      | inl l ↦ i.front b k b' (f.0, l) h
      | inr s ↦ (let g = f.0 in let z = ap₂ (word_at w) g s in absurd (cc))
    ]))
    tt i
word_keeps shape w n a q y rest (Some x) e i =
    let m = in_mark a (y ∷ rest) q in
    let p = i.tidy.only_grey y (inl refl) in
    let j = shade_keeps shape w n m x (i.words p.0 y Grey q x p.1 tt e) i in
    mark_on shape w n (record a { cells = map (tint x) a.cells }) (grey_after (has_white x a.cells) (y ∷ rest) x) q
    (q + 1)
    (λ b k b' f h. (
    let g = front_cases q y rest x (has_white x a.cells) b k f in
    let c : (k < q) ⊎ (k ≡ q) = (let lt = g.1 in grind arith) in
    elim c [
      | inl l ↦ darker_not_white (shade_darker m x) b' (i.front b k b' (g.0, l) h)
      | inr s ↦ (let g0 = g.0 in let z = ap₂ (word_at w) g0 s
          in let same : b' ≡ x = cc in rw same (shade_not_white m x))
    ]))
    (begun_cases (q + 1) y rest x (has_white x a.cells))
    j

-- ---- the front birth turns black

blackened_by : (b a : ℕ) (x : Colour) (t : Bool) → nat_eq a b ≡ t
    → (((if t then Taken a Black else Taken a x) ≡ Taken a x) × (a ≡ b → ⊥)) ⊎ ((a ≡ b)
    × ((if t then Taken a Black else Taken a x) ≡ Taken b Black))
blackened_by b a x true e = let h = eqb-true a b e in inr (h, cc)
blackened_by b a x false e = inl (refl, λ h. let r = eq-eqb a b h in cc)

pub blackened_taken : (b : ℕ) (cells : List Cell) (c a : ℕ) (x : Colour) → cell_at cells c ≡ Taken a x
    → ((cell_at (map (blackened b) cells) c ≡ Taken a x) × (a ≡ b → ⊥)) ⊎ ((a ≡ b)
    × (cell_at (map (blackened b) cells) c ≡ Taken b Black))
blackened_taken b cells c a x e = rw (cell_at-map (blackened b) refl cells c, e) (blackened_by b a x (nat_eq a b) refl)

-- what a cell after it was before
pub blackened_before : (b : ℕ) (cells : List Cell) (c a : ℕ) (x : Colour) → cell_at (map (blackened b) cells) c
    ≡ Taken a x → ((cell_at cells c ≡ Taken a x) × (a ≡ b → ⊥)) ⊎ ((a ≡ b) × (x ≡ Black)
    × ((y : Colour) × (cell_at cells c ≡ Taken a y)))
blackened_before b cells c a x e = go (cell_at cells c) refl
  where
    go : (z : Cell) → cell_at cells c ≡ z → ((cell_at cells c ≡ Taken a x) × (a ≡ b → ⊥)) ⊎ ((a ≡ b) × (x ≡ Black)
        × ((y : Colour) × (cell_at cells c ≡ Taken a y)))
    go Free h = let m = cell_at-map (blackened b) refl cells c in let k = ap (blackened b) h in absurd (cc)
    go (Taken d y) h = elim (blackened_taken b cells c d y h) [
      | inl s ↦ (let s0 = s.0 in let same : d ≡ a = cc in inl (cc, rw same at s.1))
      | inr s ↦ (let s0 = s.0 in let s1 = s.1 in inr (cc, cc, (y, cc)))
    ]

blackened_held : (b : ℕ) (cells : List Cell) (c a : ℕ) (x : Colour) → cell_at (map (blackened b) cells) c ≡ Taken a x
    → (y : Colour) × (cell_at cells c ≡ Taken a y)
blackened_held b cells c a x k = elim (blackened_before b cells c a x k) [ inl s ↦ (x, s.0) | inr s ↦ s.2 ]

blackened-free_by : (a : ℕ) (x : Colour) (t : Bool) → (if t then Taken a Black else Taken a x) ≡ Free → ⊥
blackened-free_by a x true e = cc
blackened-free_by a x false e = cc

blackened-free : (b : ℕ) (x : Cell) → blackened b x ≡ Free → x ≡ Free
blackened-free b Free e = refl
blackened-free b (Taken a x) e = absurd (blackened-free_by a x (nat_eq a b) e)

tidy-black : (shape : HeapShape) (n : ℕ) (a : Account) (b q : ℕ) (rest : List ℕ) → Tidy shape n (in_mark a (b ∷ rest) q)
    → Tidy shape n (record a { cells = map (blackened b) a.cells; grey = rest; phase = Mark 0 })
tidy-black shape n a b q rest h =
    let held = blackened_held b a.cells in
    record {
      sized = length-cells (blackened b) a.cells ∙ h.sized;
      one = λ c d y x z k l. (let p = held c y x k in let r = held d y z l in h.one c d y p.0 r.0 p.1 r.1);
      some = λ c x k. (let p = held c 0 x k in h.some c p.0 p.1);
      born = λ c y x k. (let p = held c y x k in h.born c y p.0 p.1);
      listed = λ y c k. elim (blackened_before b a.cells c y Grey k) [
        | inl s ↦ elim (h.listed y c s.0) [ inl e ↦ absurd (s.1 e) | inr r ↦ r ]
        | inr s ↦ (let z = s.1 in absurd (cc))
      ];
      only_grey = λ y k. (let p = h.only_grey y (inr k) in elim (blackened_taken b a.cells p.0 y Grey p.1) [
        | inl s ↦ (p.0, s.0)
        | inr s ↦ absurd (h.once.0 (rw s.0 at k))
      ]);
      once = h.once.1;
      small = spare-map (blackened b) refl (blackened-free b) a.cells _ _ a.small h.small;
      medium = spare-map (blackened b) refl (blackened-free b) a.cells _ _ a.medium h.medium;
      large = spare-map (blackened b) refl (blackened-free b) a.cells _ _ a.large h.large;
    }

black_kept : (cells : List Cell) (b q a : ℕ) → HasKept (Mark q) cells a → HasKept (Mark 0) (map (blackened b) cells) a
black_kept cells b q a k = elim (blackened_taken b cells k.cell a k.colour k.held) [
  | inl s ↦ record { cell = k.cell; colour = k.colour; held = s.0; kept = tt }
  | inr s ↦ record { cell = k.cell; colour = Black; held = rw s.0 s.1; kept = tt }
]

black_not_white : (cells : List Cell) (b a : ℕ) → NotWhite cells a → NotWhite (map (blackened b) cells) a
black_not_white cells b a n = record {
  never = λ c e. elim (blackened_before b cells c a White e) [
    | inl s ↦ n.never c s.0
    | inr s ↦ (let z = s.1 in cc)
  ];
}

black_keeps : (shape : HeapShape) (w : World) (n : ℕ) (a : Account) (q y : ℕ) (rest : List ℕ)
    → length (words_of w.objects y) ≤ q → Invariant shape w n (in_mark a (y ∷ rest) q)
    → Invariant shape w n (record a { cells = map (blackened y) a.cells; grey = rest; phase = Mark 0 })
black_keeps shape w n a q y rest l i = record {
  tidy = tidy-black shape n a y q rest i.tidy;
  roots = λ p b e. black_kept a.cells y q b (i.roots p b e);
  words = λ c b x k b' h kept e. (let p = blackened_held y a.cells c b x h
      in black_kept a.cells y q b' (i.words c b p.0 k b' p.1 tt e));
  scanned = λ p b s e. black_not_white a.cells y b (i.scanned p b tt e);
  unblack = λ c b h u. u;
  marked = λ c b k b' m h e. elim (blackened_before y a.cells c b Black h) [
    | inl s ↦ black_not_white a.cells y b' (i.marked c b k b' tt s.0 e)
    | inr s ↦ (let lt = word_within w b k b' e in let same = ap (words_of w.objects) s.0
        in black_not_white a.cells y b'
        (i.front b k b' (s.0, omega (arith, ap length same)) e))
  ];
  front = λ b k b' f e. absurd (none_fronted rest b k f);
  begun = mark_begins rest;
}

word_by : (shape : HeapShape) (w : World) (n : ℕ) (a : Account) (q y : ℕ) (rest : List ℕ) (more : Bool)
    → nat_lt q (length (words_of w.objects y)) ≡ more → Invariant shape w n (in_mark a (y ∷ rest) q)
    → Invariant shape w n (word_step w (in_mark a (y ∷ rest) q) q y rest more)
word_by shape w n a q y rest true e i = word_keeps shape w n a q y rest (word_at w y q) refl i
word_by shape w n a q y rest false e i = black_keeps shape w n a q y rest (ltb-false q _ e) i

pub mark_keeps : (shape : HeapShape) (w : World) (n : ℕ) (a : Account) (grey : List ℕ) (q : ℕ)
    → Invariant shape w n (in_mark a grey q) → Invariant shape w n (step_in shape w (in_mark a grey q) (Mark q))
mark_keeps shape w n a [] q i = mark_end shape w n a q i
mark_keeps shape w n a (y ∷ rest) q i = word_by shape w n a q y rest (nat_lt q (length (words_of w.objects y))) refl i
