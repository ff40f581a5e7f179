use Rattle.scheduler.proofs.Picking.{picked_ready}
use Rattle.scheduler.proofs.worlds.World.ready_first.Goals as goal

pub returns-then-asks : goal.returns-then-asks
returns-then-asks c = λ _. picked_ready c.args.self.now c.pick.result c.pick.ensures
