use Rattle.std.proofs.Common.{sym}
use Rattle.cells.proofs.LayoutLemmas.{length_found, looked_up}
use Rattle.cells.proofs.cells.Cells.length.Goals as goal

pub returns-in-Some : goal.returns-in-Some
returns-in-Some g c =
    let found = looked_up _ _ _ _ _ c.deref.ensures.value c.header_at.ensures c.in-Some.is in
    rw (← c.self.view_is) (sym (length_found _ _ _ _ _ c.self.invariant found))
