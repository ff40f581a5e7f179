use Rattle.std.proofs.Common.{◌<◌, length, arith, refl, length-set}
use Rattle.colours.specs.FreeLists.{account_of}
use Rattle.colours.specs.Sound.{how_many_listed}
use Rattle.colours.proofs.Keeping.{room_for_free, given, room_kept}
use Rattle.colours.proofs.accounts.Account.give.Goals as goal

few : (c : goal.After-give-arg-1)
    → how_many_listed (account_of c.self.inside.cells.items c.self.inside.free c.self.inside.grey c.self.inside.phase)
    < length c.self.inside.cells.items
few c = room_for_free _ c.args.cell c.self.invariant.0 (rw (← c.self.view_is) at c.requires.within)
    (rw (← c.self.view_is) at c.requires.taken)

pub give-requires-clause-small : goal.give-requires-clause-small
give-requires-clause-small c = let k = few c in let room = c.self.invariant.1.small in omega (arith, k, room)

pub give-requires-clause-medium : goal.give-requires-clause-medium
give-requires-clause-medium c = let k = few c in let room = c.self.invariant.1.medium in omega (arith, k, room)

pub give-requires-clause-large : goal.give-requires-clause-large
give-requires-clause-large c = let k = few c in let room = c.self.invariant.1.large in omega (arith, k, room)

pub invariant_of-self : goal.invariant_of-self
invariant_of-self c =
    let in_self = c.self.inside in (
      given in_self.cells.items in_self.free c.give.new.self in_self.grey
          in_self.phase c.args.shape c.args.cell c.self.invariant.0 (rw (← c.self.view_is) at c.requires.within)
          (rw (← c.self.view_is) at c.requires.taken) (rw (← c.self.view_is) at c.requires.white) c.give.ensures.lists,
      room_kept _ _ _ _ _ _ (length-set _ _ _) c.give.ensures.room refl c.self.invariant.1,
    )
