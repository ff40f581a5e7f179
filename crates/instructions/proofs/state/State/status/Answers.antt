use Rattle.std.proofs.Common.{◌∙◌, false, refl, sym, true}
use Rattle.instructions.proofs.Waiting.{stands}
use Rattle.instructions.proofs.state.State.status.Goals as goal

pub returns-then-not-some_goes_on : goal.returns-then-not-some_goes_on
returns-then-not-some_goes_on c =
    rw (← c.self.view_is)
    (stands c.self.inside false false _ (sym c.is_some.ensures ∙ c.if-is_some.false)
    (sym c.some_goes_on.ensures ∙ c.if-not-some_goes_on.true) refl)

pub returns-then-some_is_ready : goal.returns-then-some_is_ready
returns-then-some_is_ready c =
    rw (← c.self.view_is)
    (stands c.self.inside false true true (sym c.is_some.ensures ∙ c.if-is_some.false) (sym c.some_goes_on.ensures
    ∙ c.if-not-some_goes_on.false)
    (rw (← c.self.view_is) at (sym c.some_is_ready.ensures ∙ c.if-some_is_ready.true)))

pub returns-else-some_is_ready : goal.returns-else-some_is_ready
returns-else-some_is_ready c =
    rw (← c.self.view_is)
    (stands c.self.inside false true false (sym c.is_some.ensures ∙ c.if-is_some.false) (sym c.some_goes_on.ensures
    ∙ c.if-not-some_goes_on.false)
    (rw (← c.self.view_is) at (sym c.some_is_ready.ensures ∙ c.if-some_is_ready.false)))
