use Rattle.std.proofs.Common.{◌∙◌}
use Rattle.scheduler.proofs.Observing.{cell_count_is}
use Rattle.scheduler.proofs.worlds.World.cell_count.Goals as goal

pub returns : goal.returns
returns c = c.cell_count.ensures
    ∙ (rw (← c.self.view_is) (cell_count_is c.self.inside.state c.self.inside.journal c.self.inside.next
    c.self.invariant))
