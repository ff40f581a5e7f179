use Rattle.std.proofs.Common.{Decides, List, Option, subst, ◌∙◌}
use Rattle.model.specs.Shows.{Held}
use Rattle.scheduler.specs.Showing.{AreHeld}
use Rattle.comparison.proofs.showing.has_same_objects.Goals as goal

pub returns : goal.returns
returns c =
    subst (λ (helds : List (Option Held)). Decides c.has_all_held.result (AreHeld c.args.other.now helds))
    (c.deref.ensures.value ∙ c.in_ok-helds.ensures.shown) c.has_all_held.ensures
