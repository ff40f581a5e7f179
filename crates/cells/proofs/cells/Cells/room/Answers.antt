use Rattle.std.proofs.Common.{refl, ap, ◌∙◌, arith}
use Rattle.std.proofs.lemmas.List.{length-map}
use Rattle.std.proofs.lemmas.Option.{slice_get_read}
use Rattle.model.specs.Room.{words_of_cell}
use Rattle.cells.specs.Objects.{CellsValue}
use Rattle.cells.proofs.LayoutLemmas.{stands_at}
use Rattle.cells.proofs.cells.Cells.room.Goals as goal

pub returns : goal.returns
returns g c =
    let within = rw (← c.self.view_is, length-map) at c.requires in
    let found = slice_get_read c.self.inside.headers.items _ c.args.cell c.index.result.now refl within c.index.ensures
    in
    let at = stands_at _ _ _ _ _ _ c.args.cell _ c.self.invariant found (omega arith) in
    at.0.room_is ∙ ap (λ (cells : CellsValue _). words_of_cell cells.shape c.args.cell) c.self.view_is
