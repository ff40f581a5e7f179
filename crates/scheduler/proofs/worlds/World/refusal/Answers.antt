use Rattle.std.proofs.Common.{◌∙◌}
use Rattle.scheduler.proofs.Noting.{refusal_is}
use Rattle.scheduler.proofs.worlds.World.refusal.Goals as goal

pub returns : goal.returns
returns c = c.refusal.ensures
    ∙ (rw (← c.self.view_is) (refusal_is c.self.inside.state c.self.inside.journal c.self.inside.next c.self.invariant
    c.args.actor))
