use Rattle.std.proofs.Common.{◌∙◌}
use Rattle.scheduler.proofs.Noting.{pick_is}
use Rattle.scheduler.proofs.worlds.World.pick.Goals as goal

pub returns : goal.returns
returns c = c.next_ready.ensures
    ∙ (rw (← c.self.view_is) (pick_is c.self.inside.state c.self.inside.journal c.self.inside.next c.self.invariant))
