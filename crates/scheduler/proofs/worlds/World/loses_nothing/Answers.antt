use Rattle.scheduler.proofs.LosesNothing.{held_throughout, nothing_lost, state_stands}
use Rattle.scheduler.specs.Worlds.{recorded}
use Rattle.scheduler.proofs.worlds.World.loses_nothing.Goals as goal

pub returns-clause-now : goal.returns-clause-now
returns-clause-now c =
    rw (← c.self.view_is)
    (nothing_lost (recorded c.self.inside.state c.self.inside.journal)
    (state_stands c.self.inside.state c.self.inside.journal c.self.inside.next c.self.invariant))

pub returns-clause-throughout : goal.returns-clause-throughout
returns-clause-throughout c =
    rw (← c.self.view_is)
    (held_throughout (recorded c.self.inside.state c.self.inside.journal) c.shape-shape.ensures.head.cells
    c.self.invariant.made)
