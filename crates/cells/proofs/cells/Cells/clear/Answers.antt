use Rattle.std.proofs.Common.{None, ap, arith}
use Rattle.cells.specs.declared.headers.Header.{Header}
use Rattle.cells.proofs.LayoutLemmas.{laid_out-set, looked_up}
use Rattle.cells.proofs.CellLemmas.{cleared, nowhere}
use Rattle.cells.proofs.cells.Cells.clear.Goals as goal

pub invariant_of-self : goal.invariant_of-self
invariant_of-self g c =
    let found = looked_up _ _ _ _ _ c.deref.ensures.value c.header_at.ensures c.in-Some.is in
    let vacant = c.vacant.ensures in
    let base_is = ap (λ (h : Header _). h.base) vacant in
    let room_is = ap (λ (h : Header _). h.room) vacant in
    let unused = ap (λ (h : Header _). h.length) vacant in
    laid_out-set _ _ _ _ _ _ _ c.vacant.result c.self.invariant found base_is room_is (omega (arith, unused))
    (λ _. unused)

pub returns-in-Some : goal.returns-in-Some
returns-in-Some g c = rw (← c.self.view_is)
    (cleared _ _ _ _ c.vacant.result (ap (λ (h : Header _). h.kind) c.vacant.ensures))

pub returns-in_default : goal.returns-in_default
returns-in_default g c =
    let missing = looked_up _ _ _ _ _ c.deref.ensures.value c.header_at.ensures c.in_default.is in
    rw (← c.self.view_is) (nowhere _ _ _ _ None missing)
