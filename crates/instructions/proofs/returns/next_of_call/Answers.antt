use Rattle.std.proofs.Common.{◌≡◌, ◌∙◌, ℕ, List, Option, None, Some, ap, refl, true}
use Rattle.std.specs.Prelude.{IfSome, is_some}
use Rattle.model.specs.declared.places.MethodPlace.{MethodPlace}
use Rattle.model.specs.ClassListings.{ClassListing}
use Rattle.loader.specs.declared.method_codes.MethodCode.{MethodCode}
use Rattle.loader.specs.declared.programs.Step.{Step}
use Rattle.loader.specs.MethodCodes.{step_in_code}
use Rattle.instructions.specs.CallsByNumbers.{is_call}
use Rattle.instructions.specs.PlainRuns.{AreStepsOf}
use Rattle.instructions.specs.ReturnsByNumbers.{next_at}
use Rattle.instructions.proofs.ReturnLemmas.{next-following}
use Rattle.instructions.proofs.returns.next_of_call.Goals as goal

-- what comes behind a step of a method, where it is a call
behind : (code : MethodCode) (pc : ℕ) (step : Step) → step ≡ step_in_code code pc → (o : Option ℕ)
    → (is_some o ≡ true → is_call step.operation ≡ true) → IfSome o (λ next. next ≡ step.next)
    → IfSome o (λ next. (program : List ClassListing) → (method : MethodPlace) → AreStepsOf program method code
    → Some next ≡ next_at program method pc)
behind code pc step found None calls is = tt
behind code pc step found (Some next) calls is = λ program method steps.
    ap Some is ∙ next-following program method pc step (calls refl) (found ∙ steps pc)

pub returns : goal.returns
returns c =
    behind c.args.code.now c.args.pc c.step.result.now c.step.ensures c.next_behind.result c.next_behind.ensures.call
    c.next_behind.ensures.next
