use Rattle.std.proofs.Common.{◌≡◌, inl, inr, ℕ, suc, List, [], ◌∷◌, ◌++◌, map, set, nat_eq, Bool, true, false}
use Rattle.std.proofs.Common.{if◌then◌else◌, refl, sym, ◌∙◌, ap, arith, eqb-true, eq-eqb}
use Rattle.std.proofs.lemmas.List.{map-append, set-get_or, map-id}
use Rattle.model.specs.declared.colours.Colour.{Colour}
use Rattle.model.specs.declared.colours.Colour.TheVariants.{White, Grey, Black}
use Rattle.model.specs.Accounts.{Account, tint, has_white, shade, shade_all}
use Rattle.model.specs.declared.colours.Cell.{Cell}
use Rattle.model.specs.declared.colours.Cell.TheVariants.{Free, Taken}
use Rattle.model.specs.Worlds.{World, Object}
use Rattle.model.specs.Collector.Table.{cell_at, blackened}
use Rattle.model.proofs.CollectorLemmas.Cells.{held_before, after, white_where, white_nowhere}
use Rattle.model.proofs.CollectorLemmas.Shading.{shade_darker}
use Rattle.join.specs.Naming.{Naming, Named}
use Rattle.join.specs.OnCells.{nobody, held_object, on_cells, InCell}
use Rattle.join.specs.TurnsOnCells.{shade_at, shade_cell, shade_cells}
use Rattle.join.specs.Joined.{named_account}
use Rattle.join.proofs.Cells.{mapped_set}

-- shading a birth, told by a change of every cell, is shading its cell: no other cell holds the birth, since a naming
-- has one cell for it

-- a change of every cell that concerns one birth alone is a write of one cell
pub written : (h : Naming) (g : Cell → Cell) (cells : List Cell) (c b : ℕ) (x : Colour) → Named h cells
    → ((z : Cell) → ((y : Colour) → z ≡ Taken b y → ⊥) → z ≡ g z) → cell_at cells c ≡ Taken b x → map g cells
    ≡ set cells c (g (Taken b x))
written h g cells c b x named same e =
    mapped_set (λ (z : Cell). z) g cells c b x e
    (λ d n. same (cell_at cells d) (λ y k. n (let p = named d b y k
    in let q = named c b x e in omega (arith, p, q))))
    ∙ ap (λ zs. set zs c (g (Taken b x))) (map-id cells)

tint_by : (a b : ℕ) (t : Bool) → nat_eq a b ≡ t → (a ≡ b → ⊥) → Taken a White
    ≡ (if t then Taken a Grey else Taken a White)
tint_by a b true e n = absurd (n (eqb-true a b e))
tint_by a b false e n = refl

pub tint_other : (b : ℕ) (z : Cell) → ((y : Colour) → z ≡ Taken b y → ⊥) → z ≡ tint b z
tint_other b Free n = refl
tint_other b (Taken a White) n = tint_by a b (nat_eq a b) refl (λ e. n White (ap (λ (k : ℕ). Taken k White) e))
tint_other b (Taken a Grey) n = refl
tint_other b (Taken a Black) n = refl

black_by : (a b : ℕ) (x : Colour) (t : Bool) → nat_eq a b ≡ t → (a ≡ b → ⊥) → Taken a x
    ≡ (if t then Taken a Black else Taken a x)
black_by a b x true e n = absurd (n (eqb-true a b e))
black_by a b x false e n = refl

pub black_other : (b : ℕ) (z : Cell) → ((y : Colour) → z ≡ Taken b y → ⊥) → z ≡ blackened b z
black_other b Free n = refl
black_other b (Taken a x) n = black_by a b x (nat_eq a b) refl (λ e. n x (ap (λ (k : ℕ). Taken k x) e))

-- ---- one birth

module _ (h : Naming) (a : Account) (b : ℕ) where
  alone : Named h a.cells → (c : ℕ) (x : Colour) → cell_at a.cells c ≡ Taken b x → (x ≡ White → ⊥) → (t : Bool)
      → has_white b a.cells ≡ t → has_white b a.cells ≡ false
  alone named c x e n false k = k
  alone named c x e n true k =
      let d = white_where b a.cells k in
      let same : d.0 ≡ c = (let p = named d.0 b White d.1 in let q = named c b x e in omega (arith, p, q)) in
      let z = ap (cell_at a.cells) same in
      let w = d.1 in
      absurd (n cc)

  is_there : (c : ℕ) → cell_at a.cells c ≡ Taken b White → (t : Bool) → has_white b a.cells ≡ t → has_white b a.cells
      ≡ true
  is_there c e true k = k
  is_there c e false k = absurd ((white_nowhere b a.cells k).never c e)

  unchanged : (c : ℕ) (x : Colour) → cell_at a.cells c ≡ Taken b x → set a.cells c (Taken b x) ≡ a.cells
  unchanged c x e = ap (set a.cells c) (sym e) ∙ set-get_or a.cells c Free

  shade_is : (cells : List Cell) (t : Bool) → map (tint b) a.cells ≡ cells → has_white b a.cells ≡ t
      → named_account h (shade a b) ≡ record a { cells = cells; grey = map h (if t then a.grey ++ b ∷ [] else a.grey) }
  unfolding shade
  shade_is cells t e k = rw (e, k) refl

  shaded_at : Named h a.cells → (c : ℕ) → h b ≡ suc c → (x : Colour) → cell_at a.cells c ≡ Taken b x
      → shade_at (named_account h a) c (Taken b x) ≡ named_account h (shade a b)
  shaded_at named c k White e =
      ap (λ grey. record a { cells = set a.cells c (Taken b Grey); grey = grey })
      (ap (λ (r : ℕ). map h a.grey ++ r ∷ []) (sym k) ∙ sym (map-append h a.grey (b ∷ [])))
      ∙ sym (shade_is (set a.cells c (Taken b Grey)) true (written h (tint b) a.cells c b White named (tint_other b) e
      ∙ ap (set a.cells c) (tinted b)) (is_there c e _ refl))
    where
      tint_if : (d : ℕ) (t : Bool) → nat_eq d d ≡ t → (if t then Taken d Grey else Taken d White) ≡ Taken d Grey
      tint_if d true e = refl
      tint_if d false e = (let r = eq-eqb d d refl in absurd (cc))

      tinted : (d : ℕ) → tint d (Taken d White) ≡ Taken d Grey
      tinted d = tint_if d (nat_eq d d) refl
  shaded_at named c k Grey e = sym (shade_is a.cells false (written h (tint b) a.cells c b Grey named (tint_other b) e
      ∙ unchanged c Grey e) (alone named c Grey e (λ z. cc) _ refl))
  shaded_at named c k Black e = sym (shade_is a.cells false (written h (tint b) a.cells c b Black named (tint_other b) e
      ∙ unchanged c Black e) (alone named c Black e (λ z. cc) _ refl))

pub shade_on_cells : (h : Naming) (a : Account) (w : World) (b : ℕ) → Named h a.cells → InCell h a.cells w b
    → shade_cell (named_account h a) (h b) ≡ named_account h (shade a b)
shade_on_cells h a w b named s = rw (s.named, s.held) (shaded_at h a b named s.cell s.named s.colour s.held)

-- ---- shading moves nobody

pub named_shade : (h : Naming) (a : Account) (b : ℕ) → Named h a.cells → Named h (shade a b).cells
named_shade h a b named c d x e = let k = held_before (shade_darker a b) c d x e in named c d k.0 k.1

pub in_cell_shade : (h : Naming) (a : Account) (w : World) (b d : ℕ) → InCell h a.cells w d
    → InCell h (shade a b).cells w d
in_cell_shade h a w b d s = elim (after (shade_darker a b) s.cell d s.colour s.held) as (λ _. InCell h (shade a b).cells
    w d) [
      | inl e ↦ record { cell = s.cell; colour = s.colour; object = s.object; held = e; named = s.named; made = s.made }
      | inr p ↦ record { cell = s.cell; colour = Grey; object = s.object; held = p.1; named = s.named; made = s.made }
    ]

held_tint : (h : Naming) (os : List Object) (b : ℕ) (z : Cell) → held_object h os (tint b z) ≡ held_object h os z
held_tint h os b Free = refl
held_tint h os b (Taken a White) = go (nat_eq a b)
  where
    go : (t : Bool) → held_object h os (if t then Taken a Grey else Taken a White) ≡ held_object h os (Taken a White)
    go true = refl
    go false = refl
held_tint h os b (Taken a Grey) = refl
held_tint h os b (Taken a Black) = refl

tint_held : (h : Naming) (os : List Object) (b : ℕ) (cells : List Cell) → map (held_object h os) (map (tint b) cells)
    ≡ map (held_object h os) cells
tint_held h os b [] = refl
tint_held h os b (z ∷ cells) = rw (held_tint h os b z, tint_held h os b cells) refl

pub on_shade : (h : Naming) (a : Account) (w : World) (b : ℕ) → on_cells h (shade a b).cells w ≡ on_cells h a.cells w
unfolding shade
on_shade h a w b = ap (λ os. record (on_cells h a.cells w) { objects = nobody ∷ os }) (tint_held h w.objects b a.cells)

-- ---- the births that a turn wrote, in order

abbrev pub EachInCell : (ℕ → ℕ) → List Cell → World → List ℕ → Type 0
EachInCell h cells w [] = Unit {0}
EachInCell h cells w (b ∷ bs) = InCell h cells w b × EachInCell h cells w bs

each_in_cell : (h : Naming) (a : Account) (w : World) (b : ℕ) (bs : List ℕ) → EachInCell h a.cells w bs
    → EachInCell h (shade a b).cells w bs
each_in_cell h a w b [] k = tt
each_in_cell h a w b (d ∷ bs) k = (in_cell_shade h a w b d k.0, each_in_cell h a w b bs k.1)

pub shades_on_cells : (h : Naming) (a : Account) (w : World) (bs : List ℕ) → Named h a.cells → EachInCell h a.cells w bs
    → shade_cells (named_account h a) (map h bs) ≡ named_account h (shade_all a bs)
shades_on_cells h a w [] named k = refl
shades_on_cells h a w (b ∷ bs) named k = ap (λ x. shade_cells x (map h bs)) (shade_on_cells h a w b named k.0)
    ∙ shades_on_cells h (shade a b) w bs (named_shade h a b named) (each_in_cell h a w b bs k.1)

pub named_shades : (h : Naming) (a : Account) (bs : List ℕ) → Named h a.cells → Named h (shade_all a bs).cells
named_shades h a [] named = named
named_shades h a (b ∷ bs) named = named_shades h (shade a b) bs (named_shade h a b named)

pub on_shades : (h : Naming) (a : Account) (w : World) (bs : List ℕ) → on_cells h (shade_all a bs).cells w
    ≡ on_cells h a.cells w
on_shades h a w [] = refl
on_shades h a w (b ∷ bs) = on_shades h (shade a b) w bs ∙ on_shade h a w b
