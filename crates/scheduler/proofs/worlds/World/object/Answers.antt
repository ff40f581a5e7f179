use Rattle.std.proofs.Common.{◌≡◌, IfOk, subst}
use Rattle.scheduler.proofs.Noting.{object_is}
use Rattle.scheduler.proofs.worlds.World.object.Goals as goal

pub returns : goal.returns
returns c =
    rw (← c.self.view_is)
    (subst (λ o. IfOk c.object.result (λ view. view ≡ o)) (object_is c.self.inside.state c.self.inside.journal
    c.self.inside.next c.self.invariant c.args.birth) c.object.ensures)
