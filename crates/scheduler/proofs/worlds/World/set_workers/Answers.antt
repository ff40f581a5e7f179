use Rattle.scheduler.proofs.Workers.{workers_set}
use Rattle.scheduler.proofs.worlds.World.set_workers.Goals as goal

pub invariant_of-self : goal.invariant_of-self
invariant_of-self c =
    rw c.set_workers.ensures
    (workers_set c.self.inside.state c.self.inside.journal c.self.inside.next c.args.workers c.self.invariant
    (rw (← c.self.view_is) at c.requires.empty))
