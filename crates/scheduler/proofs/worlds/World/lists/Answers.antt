use Rattle.std.proofs.Common.{◌≡◌, IfOk, subst}
use Rattle.scheduler.proofs.Observing.{lists_are}
use Rattle.scheduler.proofs.worlds.World.lists.Goals as goal

pub returns : goal.returns
returns c =
    rw (← c.self.view_is)
    (subst (λ lists. IfOk c.lists.result (λ view. view ≡ lists)) (lists_are c.self.inside.state c.self.inside.journal
    c.self.inside.next c.self.invariant) c.lists.ensures)
