use Rattle.std.proofs.Common.{refl, arith}
use Rattle.std.proofs.lemmas.Option.{slice_get_read}
use Rattle.cells.proofs.LayoutLemmas.{laid_out-set, stands_at}
use Rattle.cells.proofs.CellLemmas.{threaded}
use Rattle.cells.proofs.cells.Cells.set_thread.Goals as goal

pub invariant_of-self : goal.invariant_of-self
invariant_of-self g c =
    let found = slice_get_read _ _ _ _ (omega arith) c.if-cell-len.true c.index_mut.ensures.value in
    let at = stands_at _ _ _ _ _ _ c.args.cell _ c.self.invariant found (omega arith) in
    let fits = at.0.fits in
    let room_is = at.0.room_is in
    laid_out-set _ _ _ _ _ _ _ _ c.self.invariant found refl refl (omega (arith, fits, room_is)) at.0.nobody

pub returns-then-cell-len : goal.returns-then-cell-len
returns-then-cell-len g c =
    let found = slice_get_read _ _ _ _ (omega arith) c.if-cell-len.true c.index_mut.ensures.value in
    rw (← c.self.view_is) (threaded _ _ _ _ _ _ found)
