-- The heap's text, cell by cell.
use Rattle.std.proofs.Common.{◌≡◌, ◌<◌, ◌+◌, ◌∙◌, ◌++◌, ℕ, suc, List, ◌∷◌, Option, Some, None, add-one, ap, drop, length, refl, sym}
use Rattle.std.specs.Prelude.{slice_get}
use Rattle.std.specs.Option.{option_map}
use Rattle.std.proofs.lemmas.Option.{get_or_from_slice_get, slice_get-get_or, slice_get_within}
use Rattle.std.proofs.Math.Seq.{drop-cons}
use Rattle.debug_texts.specs.Answers.{cell_line}
use Rattle.model.specs.declared.colours.Cell.{Cell}
use Rattle.model.specs.declared.views.CellView.{CellView}
use Rattle.model.specs.Machines.{Recorded}
use Rattle.model.specs.Observers.{cell_view}
use Rattle.model.specs.Room.{words_of_cell}
use Rattle.debugger.specs.Sessions.{cells_text}

dropped : (cells : List Cell) (n : ℕ) (cell : Cell) → slice_get cells n ≡ Some cell
    → drop n cells ≡ cell ∷ drop (n + 1) cells
dropped cells n cell e =
    drop-cons cells n cell (slice_get_within cells n cell e)
    ∙ ap (λ (c : Cell). c ∷ drop (suc n) cells) (get_or_from_slice_get cells n cell cell e)
    ∙ ap (λ k. cell ∷ drop k cells) (sym (add-one n))

pub first_cell : (v : Recorded) (cells : List Cell) (n : ℕ) (view : CellView)
    → Some view ≡ option_map (cell_view (words_of_cell v.journal.shape n)) (slice_get cells n)
    → cells_text v n (drop n cells) ≡ cell_line n view ++ cells_text v (n + 1) (drop (n + 1) cells)
first_cell v cells n view e = by_cell (slice_get cells n) refl e where
  by_cell : (o : Option Cell) → slice_get cells n ≡ o
      → Some view ≡ option_map (cell_view (words_of_cell v.journal.shape n)) o
      → cells_text v n (drop n cells) ≡ cell_line n view ++ cells_text v (n + 1) (drop (n + 1) cells)
  by_cell None s e = cc
  by_cell (Some cell) s e =
      let same : cell_view (words_of_cell v.journal.shape n) cell ≡ view = cc in
      ap (λ (cs : List Cell). cells_text v n cs) (dropped cells n cell s)
      ∙ ap (λ (w : CellView). cell_line n w ++ cells_text v (n + 1) (drop (n + 1) cells)) same

pub cell_there : (v : Recorded) (cells : List Cell) (n : ℕ) (d : Cell) → n < length cells
    → None ≡ option_map (cell_view (words_of_cell v.journal.shape n)) (slice_get cells n) → ⊥
cell_there v cells n d h e =
    let some = slice_get-get_or cells n d h in
    let none = ap (λ (o : Option Cell). option_map (cell_view (words_of_cell v.journal.shape n)) o) some in
    cc
