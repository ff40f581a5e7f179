use Rattle.std.proofs.Common.{◌≡◌, IfOk, subst}
use Rattle.scheduler.proofs.Noting.{back}
use Rattle.scheduler.proofs.worlds.World.static_fields.Goals as goal

pub returns : goal.returns
returns c =
    rw (← c.self.view_is)
    (subst (λ fields. IfOk c.static_fields.result (λ views. views.items ≡ fields))
    (back c.self.inside.state c.self.inside.journal c.self.inside.next c.self.invariant).slots
    c.static_fields.ensures)
