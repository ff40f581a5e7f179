use Rattle.std.proofs.Common.{refl, sym, ◌∙◌, arith}
use Rattle.cells.proofs.LayoutLemmas.{looked_up, word_found}
use Rattle.cells.proofs.cells.Cells.word.Goals as goal

pub returns : goal.returns
returns g c =
    let found = looked_up _ _ _ _ _ c.deref.ensures.value c.in_ok-header.ensures refl in
    c.get.ensures ∙ rw (← c.self.view_is)
    (sym (word_found _ _ _ _ _ _ c.self.invariant found (omega (arith, c.from.ensures))))
