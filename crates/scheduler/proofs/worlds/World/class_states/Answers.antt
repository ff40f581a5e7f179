use Rattle.std.proofs.Common.{◌∙◌}
use Rattle.scheduler.proofs.Noting.{back}
use Rattle.scheduler.proofs.worlds.World.class_states.Goals as goal

pub returns : goal.returns
returns c = c.class_states.ensures
    ∙ (rw (← c.self.view_is) (back c.self.inside.state c.self.inside.journal c.self.inside.next
    c.self.invariant).states)
