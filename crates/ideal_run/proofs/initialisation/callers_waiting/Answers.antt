use Rattle.std.proofs.Common.{◌∙◌, List, [], ◌∷◌, ◌++◌, map, ap}
use Rattle.model.specs.Frames.{Frame}
use Rattle.model.specs.Initialisation.{waiting}
use Rattle.ideal_run.proofs.WaitingLemmas.{waits-some}
use Rattle.ideal_run.proofs.initialisation.callers_waiting.Goals as goal

pub returns-in_ok-push-in-Some : goal.returns-in_ok-push-in-Some
returns-in_ok-push-in-Some c =
    waits-some c.args.frames.items c.pop.new.self.items c.in-Some.last _ c.in-Some.ensures.items
    (c.in_ok-push-in-Some.ensures.items ∙ ap (λ (l : List Frame). l ++ c.in-Some.last ∷ [])
    (c.in_ok-after-in-Some.ensures ∙ ap (map waiting) c.deref.ensures.value))
