use Rattle.std.proofs.Common.{◌∙◌}
use Rattle.scheduler.proofs.Noting.{class_is}
use Rattle.scheduler.proofs.worlds.World.state_of_class.Goals as goal

pub returns : goal.returns
returns c =
    c.class_state.ensures
    ∙ rw (← c.self.view_is) (class_is c.self.inside.state c.self.inside.journal c.self.inside.next c.self.invariant
    c.args.name.now)
