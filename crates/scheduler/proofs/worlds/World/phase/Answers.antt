use Rattle.std.proofs.Common.{◌∙◌}
use Rattle.scheduler.proofs.Noting.{phase_is}
use Rattle.scheduler.proofs.worlds.World.phase.Goals as goal

pub returns : goal.returns
returns c = c.phase.ensures
    ∙ (rw (← c.self.view_is) (phase_is c.self.inside.state c.self.inside.journal c.self.inside.next c.self.invariant))
