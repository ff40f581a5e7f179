use Rattle.std.proofs.Common.{arith, refl, length-set}
use Rattle.model.specs.declared.colours.Colour.TheVariants.{White, Black}
use Rattle.colours.proofs.Keeping.{coloured, room_kept}
use Rattle.colours.proofs.accounts.Account.whiten.Goals as goal

pub invariant_of-self : goal.invariant_of-self
invariant_of-self c = (
  coloured _ c.args.cell c.args.birth c.args.birth Black White _ c.self.invariant.0
      (rw (← c.self.view_is) at c.requires) (omega arith),
  room_kept _ _ _ _ _ _ (length-set _ _ _) refl refl c.self.invariant.1,
)
