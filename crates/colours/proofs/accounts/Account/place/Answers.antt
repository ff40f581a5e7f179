use Rattle.std.proofs.Common.{arith, refl, length-set}
use Rattle.model.specs.declared.colours.Colour.TheVariants.{White}
use Rattle.colours.proofs.Keeping.{takes_leave, is_within, came, room_kept}
use Rattle.colours.proofs.accounts.Account.place.Goals as goal

pub index_mut-requires : goal.index_mut-requires
index_mut-requires c =
    let in_self = c.self.inside in
    let out = takes_leave in_self.cells.items in_self.free c.take.new.self in_self.grey
    in_self.phase 0 c.in-Some.cell _ c.take.ensures.taken c.in-Some.is in
    let within = is_within _ _ _ c.self.invariant.0 out in
    let len = in_self.cells.ok.0 in
    omega (arith, within, len)

pub invariant_of-self : goal.invariant_of-self
invariant_of-self c =
    let in_self = c.self.inside in
    let out = takes_leave in_self.cells.items in_self.free c.take.new.self in_self.grey
    in_self.phase 0 c.in-Some.cell _ c.take.ensures.taken c.in-Some.is in (
      came _ c.in-Some.cell _ c.args.birth White _ c.self.invariant.0 out (omega arith),
      room_kept _ _ _ _ _ _ (length-set _ _ _) c.take.ensures.room refl c.self.invariant.1,
    )
