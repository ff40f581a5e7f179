use Rattle.std.proofs.Common.{◌≡◌, ℕ, suc, Bool, true, false, Option, Some, None, refl, sym, ◌∙◌, ap, subst, arith}
use Rattle.model.specs.declared.colours.Colour.{Colour}
use Rattle.model.specs.declared.colours.Cell.TheVariants.{Taken}
use Rattle.model.specs.declared.journals.HeapShape.{HeapShape}
use Rattle.model.specs.Accounts.{Account}
use Rattle.model.specs.Worlds.{World, next_birth}
use Rattle.model.specs.Collector.Places.{Place, Reach, root_at, word_at}
use Rattle.model.specs.Collector.Places.Place.{MemoryError, StackError, Slot, FrameEntry, MethodMonitor}
use Rattle.model.specs.Collector.Places.Reach.{at_root, by_word}
use Rattle.model.specs.Collector.Reached.{is_reached}
use Rattle.model.specs.Collector.Table.{cell_at}
use Rattle.model.specs.Collector.Invariant.{Invariant}
use Rattle.model.proofs.CollectorLemmas.Reaching.{is_reached-Reach, Reach-is_reached}
use Rattle.join.specs.Naming.{Naming, Named, named_ref}
use Rattle.join.specs.OnCells.{on_cells, InCell}
use Rattle.join.proofs.Places.{slot_on_cells, entry_on_cells, method_on_cells, word_on_cells}
use Rattle.join.proofs.Reached.{reached_in_cell}

-- Paths lead to the same births on cells: each step of the one is a step of the other, and what no path reaches in the
-- ideal world, no path reaches in its cell.

-- what leads to a name leads to a birth of that name
named_back : (h : Naming) (o : Option ℕ) (r : ℕ) → named_ref h o ≡ Some r → (b : ℕ) × (o ≡ Some b) × (h b ≡ r)
named_back h None r e = absurd (cc)
named_back h (Some b) r e = (b, refl, cc)

-- two tests, each of which passes where the other does
pub alike : (p q : Bool) → (p ≡ true → q ≡ true) → (q ≡ true → p ≡ true) → p ≡ q
alike true q there back = sym (there refl)
alike false true there back = back refl
alike false false there back = refl

module _ (h : Naming) (shape : HeapShape) (w : World) (a : Account) (named : Named h a.cells)
    (i : Invariant shape w (next_birth w) a) (one : h 1 ≡ 1) (two : h 2 ≡ 2) where
  abbrev on : World
  on = on_cells h a.cells w

  root_on_cells : (p : Place) → root_at on p ≡ named_ref h (root_at w p)
  unfolding root_at
  root_on_cells MemoryError = ap (λ (r : ℕ). Some r) (sym one)
  root_on_cells StackError = ap (λ (r : ℕ). Some r) (sym two)
  root_on_cells (Slot s) = slot_on_cells h a.cells w s
  root_on_cells (FrameEntry t d j) = entry_on_cells h a.cells w t d j
  root_on_cells (MethodMonitor t d) = method_on_cells h a.cells w t d

  pub path_on_cells : (b : ℕ) → Reach w b → Reach on (h b)
  path_on_cells b (at_root p e) = at_root p (root_on_cells p ∙ ap (named_ref h) e)
  path_on_cells b (by_word x k r e) =
      by_word (h x) k (path_on_cells x r) (word_on_cells h a.cells w x k (reached_in_cell h shape w a named i x r)
      ∙ ap (named_ref h) e)

  -- the birth at the end of a path on cells
  abbrev Ends : ℕ → Type 0
  Ends r = (b : ℕ) × Reach w b × (h b ≡ r)

  ends : (r : ℕ) → Reach on r → Ends r
  ends r (at_root p e) = let back = named_back h (root_at w p) r (sym (root_on_cells p) ∙ e)
      in (back.0, at_root p back.1, back.2)
  ends r (by_word x k p e) =
      let from : Ends x = ends x p in
      let there : word_at on (h from.0) k ≡ Some r = subst (λ (y : ℕ). word_at on y k ≡ Some r) (sym from.2) e in
      let back = named_back h (word_at w from.0 k) r
      (sym (word_on_cells h a.cells w from.0 k (reached_in_cell h shape w a named i from.0 from.1)) ∙ there) in
      (back.0, by_word from.0 k from.1 back.1, back.2)

  module _ (c b : ℕ) (x : Colour) (held : cell_at a.cells c ≡ Taken b x) where
    there : is_reached w b ≡ true → is_reached on (suc c) ≡ true
    there e = Reach-is_reached on (suc c)
        (subst (Reach on) (named c b x held) (path_on_cells b (is_reached-Reach w b e)))

    -- the birth at the end stands in that cell, which holds one
    same_birth : (d : ℕ) → Reach w d → h d ≡ suc c → d ≡ b
    same_birth d r e =
        let s : InCell h a.cells w d = reached_in_cell h shape w a named i d r in
        let n = s.named in
        let cell : s.cell ≡ c = omega (arith, n, e) in
        let same : Taken d s.colour ≡ Taken b x = sym s.held ∙ ap (cell_at a.cells) cell ∙ held in
        cc

    back_again : is_reached on (suc c) ≡ true → is_reached w b ≡ true
    back_again e =
        let end : Ends (suc c) = ends (suc c) (is_reached-Reach on (suc c) e) in
        Reach-is_reached w b (subst (Reach w) (same_birth end.0 end.1 end.2) end.1)

    pub reached_alike : is_reached on (suc c) ≡ is_reached w b
    reached_alike = alike (is_reached on (suc c)) (is_reached w b) back_again there
