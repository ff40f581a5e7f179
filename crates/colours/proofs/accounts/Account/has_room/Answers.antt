use Rattle.colours.specs.FreeLists.{account_of}
use Rattle.colours.proofs.Keeping.{taken_there}
use Rattle.colours.proofs.accounts.Account.has_room.Goals as goal

pub returns-clause-room : goal.returns-clause-room
returns-clause-room c =
    let in_self = c.self.inside in
    rw (← c.self.view_is) (c.have_room.ensures (account_of in_self.cells.items in_self.free in_self.grey in_self.phase))

pub returns-clause-there : goal.returns-clause-there
returns-clause-there c = rw (← c.self.view_is) (taken_there _ c.args.words c.self.invariant.0)
