use Rattle.std.proofs.Common.{◌≡◌, IfOk, subst}
use Rattle.scheduler.proofs.Observing.{helds_is, helds_on_cells}
use Rattle.scheduler.proofs.worlds.World.helds.Goals as goal

pub returns-clause-on_cells : goal.returns-clause-on_cells
returns-clause-on_cells c =
    rw (← c.self.view_is)
    (subst (λ helds. IfOk c.helds.result (λ views. views.items ≡ helds))
    (helds_on_cells c.self.inside.state c.self.inside.journal c.self.inside.next c.self.invariant) c.helds.ensures)

pub returns-clause-shown : goal.returns-clause-shown
returns-clause-shown c =
    rw (← c.self.view_is)
    (subst (λ helds. IfOk c.helds.result (λ views. views.items ≡ helds))
    (helds_is c.self.inside.state c.self.inside.journal c.self.inside.next c.self.invariant) c.helds.ensures)
