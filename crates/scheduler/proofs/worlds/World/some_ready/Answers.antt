use Rattle.std.proofs.Common.{◌∙◌, sym}
use Rattle.scheduler.proofs.Idling.{ready_is}
use Rattle.scheduler.proofs.Picking.{picked_ready}
use Rattle.scheduler.proofs.worlds.World.some_ready.Goals as goal

pub returns-then-is_known_ready : goal.returns-then-is_known_ready
returns-then-is_known_ready c =
    let a = c.self.inside in
    rw (← c.self.view_is)
    (sym (ready_is a.state a.journal a.next c.self.invariant c.args.thread)
    ∙ c.is_known_ready.ensures c.if-is_known_ready.true)

pub returns : goal.returns
returns c = picked_ready c.args.self.now c.pick.result c.pick.ensures
