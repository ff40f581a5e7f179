use Rattle.std.proofs.Common.{◌≡◌, arith, refl, ap, length-set}
use Rattle.model.specs.declared.colours.Cell.TheVariants.{Taken}
use Rattle.model.specs.declared.colours.Colour.TheVariants.{White, Grey}
use Rattle.model.specs.Collector.Table.{cell_at}
use Rattle.model.proofs.CollectorLemmas.Cells.{taken_within}
use Rattle.colours.proofs.Keeping.{room_for_grey, pushed, coloured, room_kept}
use Rattle.colours.proofs.accounts.Account.darken.Goals as goal

white : (c : goal.After-push) → cell_at c.self.inside.cells.items c.in-Some.cell
    ≡ Taken c.in-Taken-default-White.birth White
white c =
    let held = c.cell.ensures in
    let is = c.in-Taken-default-White.is in
    let colour = c.in-Taken-default-White.colour-is in
    let same = ap (λ a. cell_at a.cells c.in-Some.cell) c.self.view_is in
    cc

pub push-requires : goal.push-requires
push-requires c =
    let held = c.cell.ensures in
    let is = c.in-Taken-default-White.is in
    let colour = c.in-Taken-default-White.colour-is in
    let same = ap (λ a. cell_at a.cells c.in-Some.cell) c.self.view_is in
    let white : cell_at c.self.inside.cells.items c.in-Some.cell ≡ Taken c.in-Taken-default-White.birth White = cc in
    let less = room_for_grey _ _ c.self.invariant.0 (taken_within _ _ _ _ white) (rw white refl) in
    let room = c.self.invariant.1.grey in
    omega (arith, less, room)

pub invariant_of-self : goal.invariant_of-self
invariant_of-self c =
    let one_more = pushed c.self.inside.grey c.push.new.list c.args.reference c.push.ensures in
    let length = one_more.0 in (
      coloured _ c.in-Some.cell c.in-Taken-default-White.birth c.in-Taken-default-White.birth White Grey _
          c.self.invariant.0 (white c) (omega (arith, length)),
      room_kept _ _ _ _ _ _ (length-set _ _ _) refl one_more.1 c.self.invariant.1,
    )
