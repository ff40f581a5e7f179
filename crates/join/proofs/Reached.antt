use Rattle.std.proofs.Common.{◌≡◌, ℕ, Some}
use Rattle.model.specs.declared.colours.Colour.{Colour}
use Rattle.model.specs.declared.journals.HeapShape.{HeapShape}
use Rattle.model.specs.Accounts.{Account}
use Rattle.model.specs.declared.colours.Cell.TheVariants.{Taken}
use Rattle.model.specs.Worlds.{World, next_birth}
use Rattle.model.specs.Collector.Places.{Reach, Place, root_at}
use Rattle.model.specs.Collector.Table.{cell_at}
use Rattle.model.specs.Collector.Invariant.{Invariant, HasKept}
use Rattle.model.proofs.CollectorLemmas.Shading.{reach_kept}
use Rattle.join.specs.Naming.{Naming, Named}
use Rattle.join.specs.OnCells.{InCell, ReachedInCells}
use Rattle.join.proofs.Lists.{get-within}

-- where the collector's invariant holds, what paths reach stands in a cell: it is kept, and what is kept has a cell.
-- This is the one place where phases and colours count

module _ (h : Naming) (shape : HeapShape) (w : World) (a : Account) (named : Named h a.cells)
    (i : Invariant shape w (next_birth w) a) where
  pub in_cell_at : (c b : ℕ) (x : Colour) → cell_at a.cells c ≡ Taken b x → InCell h a.cells w b
  in_cell_at c b x e = let o = get-within w.objects b (i.tidy.born c b x e)
      in record {
        cell = c;
        colour = x;
        object = o.0;
        held = e;
        named = named c b x e;
        made = o.1;
      }

  pub kept_in_cell : (b : ℕ) → HasKept a.phase a.cells b → InCell h a.cells w b
  kept_in_cell b k = in_cell_at k.cell b k.colour k.held

  pub reached_in_cell : (b : ℕ) → Reach w b → InCell h a.cells w b
  reached_in_cell b r = kept_in_cell b (reach_kept shape w (next_birth w) a b i r)

  pub root_in_cell : (p : Place) (b : ℕ) → root_at w p ≡ Some b → InCell h a.cells w b
  root_in_cell p b e = kept_in_cell b (i.roots p b e)

  pub reached_in_cells : h 1 ≡ 1 → h 2 ≡ 2 → ReachedInCells h a.cells w
  reached_in_cells e f = record { named = named; reached = reached_in_cell; memory_error = e; stack_error = f }
