use Rattle.std.proofs.Common.{◌≡◌, ℕ, zero, suc, ◌<◌, List, [], ◌∷◌, length, slice_get, Some, refl, sym, ◌∙◌}
use Rattle.std.proofs.Common.{subst, arith}
use Rattle.std.proofs.lemmas.List.{length-map}
use Rattle.model.specs.declared.colours.Colour.{Colour}
use Rattle.model.specs.declared.colours.Colour.TheVariants.{White}
use Rattle.model.specs.declared.colours.Cell.{Cell}
use Rattle.model.specs.declared.colours.Cell.TheVariants.{Taken}
use Rattle.model.specs.Worlds.{World}
use Rattle.model.specs.Collector.Table.{cell_at}
use Rattle.join.specs.Naming.{Naming}
use Rattle.join.specs.OnCells.{on_cells, InCell, ReachedInCells, held_object}
use Rattle.join.proofs.Lists.{get-within}
use Rattle.exploration.specs.Representation.{Images}
use Rattle.exploration.specs.CanonicalForms.{taken, AllMade, CanonicalRepresents, TurnsMakeAll}
use Rattle.exploration.proofs.Composition.{ends}
use Rattle.exploration.proofs.Turns.{turn_images}
use Rattle.model.specs.Table.Next.{next}

-- a list of all that paths reach makes a world that represents the world

held_of : (order : List ℕ) (k b : ℕ) → slice_get order k ≡ Some b → cell_at (taken order) k ≡ Taken b White
held_of [] k b e = absurd (cc)
held_of (x ∷ order) zero b e = (let s : x ≡ b = cc in rw s refl)
held_of (x ∷ order) (suc k) b e = held_of order k b e

of_held : (order : List ℕ) (k b : ℕ) (x : Colour) → cell_at (taken order) k ≡ Taken b x → slice_get order k ≡ Some b
of_held [] k b x e = absurd (cc)
of_held (y ∷ order) zero b x e = (let s : y ≡ b = cc in rw s refl)
of_held (y ∷ order) (suc k) b x e = of_held order k b x e

pub canonical_represents : CanonicalRepresents
canonical_represents h order w l made = record {
  naming = h;
  cells = taken order;
  reached = record {
    named = λ c b x e. l.numbered c b (of_held order c b x e);
    reached = λ b r. (let k = l.complete b r in let o = get-within w.objects b (made b r) in record {
      cell = k.0;
      colour = White;
      object = o.0;
      held = held_of order k.0 b k.1;
      named = l.numbered k.0 b k.1;
      made = o.1;
    });
    memory_error = l.numbered 0 1 l.memory_error;
    stack_error = l.numbered 1 2 l.stack_error;
  };
  tidy = λ c b x e. l.only c b (of_held order c b x e);
  is = refl;
}

-- in an image whatever paths reach was made

cell_within : (cells : List Cell) (c b : ℕ) (x : Colour) → cell_at cells c ≡ Taken b x → c < length cells
cell_within [] c b x e = absurd (cc)
cell_within (z ∷ cells) zero b x e = omega arith
cell_within (z ∷ cells) (suc c) b x e = (let l = cell_within cells c b x e in omega (arith, l))

on_cells_made : (h : Naming) (cells : List Cell) (w : World) → ReachedInCells h cells w → AllMade (on_cells h cells w)
on_cells_made h cells w u r p =
    let e = ends h cells w u r p in
    let s : InCell h cells w e.0 = u.reached e.0 e.1 in
    let l = cell_within cells s.cell e.0 s.colour s.held in
    let n = length-map cells (held_object h w.objects) in
    let q : r ≡ suc s.cell = sym e.2 ∙ s.named in
    omega (arith, l, n, q)

pub images_made : (x w : World) → Images x w → AllMade x
images_made x w i = subst AllMade (sym i.is) (on_cells_made i.naming i.cells w i.reached)

pub turns_make_all : TurnsMakeAll
turns_make_all program x w t choice r none = images_made (next program x t choice).after (next program w t choice).after
    (turn_images program x w r t choice none)
