use Rattle.std.proofs.Common.{◌≡◌, inl, inr, ℕ, zero, suc, List, [], ◌∷◌, map, set, slice_get, Some, refl, ◌∙◌, ap}
use Rattle.std.proofs.Common.{arith}
use Rattle.model.specs.declared.colours.Colour.{Colour}
use Rattle.model.specs.declared.colours.Cell.{Cell}
use Rattle.model.specs.declared.colours.Cell.TheVariants.{Free, Taken}
use Rattle.model.specs.Worlds.{World, Object, Contents}
use Rattle.model.specs.Worlds.Contents.{Instance, Array}
use Rattle.model.specs.Objects.{object_at, class_at, class_of, with_object}
use Rattle.model.specs.Words.{contents_at}
use Rattle.model.specs.Collector.Table.{cell_at}
use Rattle.model.proofs.CollectorLemmas.Cells.{same_or_not}
use Rattle.join.specs.Naming.{Naming, named_object, named_contents, Named}
use Rattle.join.specs.OnCells.{held_object, nobody, on_cells, InCell}
use Rattle.join.proofs.Lists.{get-set_same, get-set_other}

-- an object is read in its cell, and written in that cell alone

-- ---- lists of cells

pub mapped_at : (f : Cell → Object) (cells : List Cell) (c b : ℕ) (x : Colour) → cell_at cells c ≡ Taken b x
    → slice_get (map f cells) c ≡ Some (f (Taken b x))
mapped_at f [] c b x e = absurd (cc)
mapped_at f (z ∷ cells) zero b x e = rw e refl
mapped_at f (z ∷ cells) (suc c) b x e = mapped_at f cells c b x e

pub mapped_alike : {A : Type 0} (f g : Cell → A) (cells : List Cell)
    → ((d : ℕ) → f (cell_at cells d) ≡ g (cell_at cells d)) → map f cells ≡ map g cells
mapped_alike f g [] k = refl
mapped_alike f g (z ∷ cells) k = rw (k 0, mapped_alike f g cells (λ d. k (suc d))) refl

-- two readings of the cells that agree but on one
pub mapped_set : {A : Type 0} (f g : Cell → A) (cells : List Cell) (c b : ℕ) (x : Colour) → cell_at cells c ≡ Taken b x
    → ((d : ℕ) → (d ≡ c → ⊥) → f (cell_at cells d) ≡ g (cell_at cells d)) → map g cells
    ≡ set (map f cells) c (g (Taken b x))
mapped_set f g [] c b x e k = absurd (cc)
mapped_set f g (z ∷ cells) zero b x e k = rw (← e, mapped_alike f g cells (λ d. k (suc d) (λ s. absurd (omega arith))))
    refl
mapped_set f g (z ∷ cells) (suc c) b x e k = rw (
  k 0 (λ s. absurd (omega arith)),
  mapped_set f g cells c b x e (λ d n. k (suc d) (λ s. n (omega arith))),
) refl

-- ---- worlds

pub object_in_cell : (h : Naming) (cells : List Cell) (w : World) (b : ℕ) (s : InCell h cells w b)
    → object_at (on_cells h cells w) (h b) ≡ Some (named_object h s.object)
object_in_cell h cells w b s = rw (
  s.named,
  mapped_at (held_object h w.objects) cells s.cell b s.colour s.held,
  s.made,
) refl

pub contents_in_cell : (h : Naming) (cells : List Cell) (w : World) (b : ℕ) → InCell h cells w b
    → contents_at (on_cells h cells w) (h b) ≡ named_contents h (contents_at w b)
contents_in_cell h cells w b s = rw (object_in_cell h cells w b s, s.made) refl

pub class_named : (h : Naming) (c : Contents) → class_of (named_contents h c) ≡ class_of c
class_named h (Instance class fields) = refl
class_named h (Array element values) = refl

pub class_in_cell : (h : Naming) (cells : List Cell) (w : World) (b : ℕ) → InCell h cells w b
    → class_at (on_cells h cells w) (h b) ≡ class_at w b
class_in_cell h cells w b s = rw (object_in_cell h cells w b s, s.made) (class_named h s.object.contents)

-- another object of a birth that stands in a cell
other_held : (h : Naming) (os : List Object) (b : ℕ) (o : Object) (z : Cell)
    → ((a : ℕ) (y : Colour) → z ≡ Taken a y → a ≡ b → ⊥) → held_object h os z ≡ held_object h (set os b o) z
other_held h os b o Free k = refl
other_held h os b o (Taken a y) k = rw (get-set_other os a b o (k a y refl)) refl

pub put_on_cells : (h : Naming) (cells : List Cell) (w : World) (b : ℕ) (o : Object) → Named h cells
    → InCell h cells w b → on_cells h cells (with_object w b o)
    ≡ with_object (on_cells h cells w) (h b) (named_object h o)
put_on_cells h cells w b o named s =
    let here : held_object h (set w.objects b o) (Taken b s.colour)
    ≡ named_object h o = rw (get-set_same w.objects b o s.object s.made) refl in
    let all = mapped_set (held_object h w.objects) (held_object h (set w.objects b o)) cells s.cell b s.colour s.held
    (λ d n. other_held h w.objects b o (cell_at cells d)
    (λ a y e k. n (let p = named d a y e in let q = ap h k in let r = s.named in omega (arith, p, q, r)))) in
    rw (s.named, ← here) (ap (λ os. record (on_cells h cells w) { objects = nobody ∷ os }) all)

-- a birth stands where it stood
pub in_cell_put : (h : Naming) (cells : List Cell) (w : World) (a b : ℕ) (o : Object) → InCell h cells w a
    → InCell h cells (with_object w b o) a
in_cell_put h cells w a b o s = elim (same_or_not b a) as (λ _. InCell h cells (with_object w b o) a) [
  | inl e ↦ record {
    cell = s.cell;
    colour = s.colour;
    object = o;
    held = s.held;
    named = s.named;
    made = (let k = s.made in rw (← e) (get-set_same w.objects a o s.object k));
  }
  | inr n ↦ record {
    cell = s.cell;
    colour = s.colour;
    object = s.object;
    held = s.held;
    named = s.named;
    made = get-set_other w.objects a b o n ∙ s.made;
  }
]
