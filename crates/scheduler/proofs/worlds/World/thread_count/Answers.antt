use Rattle.std.proofs.Common.{◌∙◌}
use Rattle.scheduler.proofs.Observing.{count_is}
use Rattle.scheduler.proofs.worlds.World.thread_count.Goals as goal

pub returns : goal.returns
returns c = c.thread_count.ensures
    ∙ (rw (← c.self.view_is) (count_is c.self.inside.state c.self.inside.journal c.self.inside.next c.self.invariant))
