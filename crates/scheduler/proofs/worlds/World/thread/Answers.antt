use Rattle.std.proofs.Common.{◌≡◌, IfOk, subst}
use Rattle.scheduler.proofs.Noting.{thread_is}
use Rattle.scheduler.proofs.worlds.World.thread.Goals as goal

pub returns : goal.returns
returns c =
    rw (← c.self.view_is)
    (subst (λ o. IfOk c.thread.result (λ view. view ≡ o)) (thread_is c.self.inside.state c.self.inside.journal
    c.self.inside.next c.self.invariant c.args.thread) c.thread.ensures)
