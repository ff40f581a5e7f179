use Rattle.std.proofs.Common.{◌∙◌, ap, is_some}
use Rattle.model.specs.Observers.{is_running}
use Rattle.scheduler.proofs.Noting.{back}
use Rattle.scheduler.proofs.Picking.{running_from}
use Rattle.scheduler.proofs.worlds.World.runs.Goals as goal

pub returns : goal.returns
returns c =
    let a = c.self.inside in
    c.is_some.ensures ∙ ap is_some c.next_ready.ensures
    ∙ running_from a.state.program a.state.machine.world a.next
    ∙ rw (← c.self.view_is) (ap is_running (back a.state a.journal a.next c.self.invariant).status)
