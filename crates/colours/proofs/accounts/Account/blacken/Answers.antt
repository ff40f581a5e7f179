use Rattle.std.proofs.Common.{arith, refl, sym, ◌∙◌, length-set}
use Rattle.model.specs.declared.colours.Cell.TheVariants.{Taken}
use Rattle.model.specs.declared.colours.Colour.TheVariants.{Black}
use Rattle.colours.proofs.Counting.{grey_in_one}
use Rattle.colours.proofs.Keeping.{popped, coloured, room_kept}
use Rattle.colours.proofs.accounts.Account.blacken.Goals as goal

pub invariant_of-self-in-Taken : goal.invariant_of-self-in-Taken
invariant_of-self-in-Taken c =
    let held = sym (c.in-Taken.ensures) in
    let p = popped _ _ c.in-Some.reference (sym c.in-Some.is ∙ c.pop_front.ensures.value) c.pop_front.ensures.items in
    let less = p.0 in
    let one = grey_in_one (Taken c.in-Taken.birth c.in-Taken.colour) in (
      coloured _ c.in-Some-checked_sub.cell c.in-Taken.birth c.in-Taken.birth c.in-Taken.colour Black _
          c.self.invariant.0 (rw c.deref.ensures.value at held) (omega (arith, less, one)),
      room_kept _ _ _ _ _ _ (length-set _ _ _) refl p.1 c.self.invariant.1,
    )
