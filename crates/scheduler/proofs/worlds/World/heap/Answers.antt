use Rattle.std.proofs.Common.{◌∙◌}
use Rattle.scheduler.proofs.Noting.{cell_is}
use Rattle.scheduler.proofs.worlds.World.heap.Goals as goal

pub returns : goal.returns
returns c = c.cell.ensures
    ∙ (rw (← c.self.view_is) (cell_is c.self.inside.state c.self.inside.journal c.self.inside.next c.self.invariant
    c.args.cell))
