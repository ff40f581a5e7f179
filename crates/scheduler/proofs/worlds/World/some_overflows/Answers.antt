use Rattle.std.proofs.Common.{◌∙◌}
use Rattle.scheduler.proofs.Noting.{some_held_is}
use Rattle.scheduler.proofs.worlds.World.some_overflows.Goals as goal

pub returns : goal.returns
returns c = c.some_overflows.ensures
    ∙ (rw (← c.self.view_is) (some_held_is c.self.inside.state c.self.inside.journal c.self.inside.next
    c.self.invariant))
