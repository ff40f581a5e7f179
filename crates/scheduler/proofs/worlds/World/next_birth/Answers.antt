use Rattle.std.proofs.Common.{◌∙◌}
use Rattle.scheduler.proofs.Noting.{back}
use Rattle.scheduler.proofs.worlds.World.next_birth.Goals as goal

pub returns : goal.returns
returns c = c.next_birth.ensures
    ∙ (rw (← c.self.view_is) (back c.self.inside.state c.self.inside.journal c.self.inside.next
    c.self.invariant).births)
