-- A thread whose step may not wait waits for nobody, whatever the machine is like.
use Rattle.std.proofs.Common.{◌≡◌, ◌∙◌, ap, sym}
use Rattle.model.specs.declared.turns.Mark.TheVariants.{Unmarked}
use Rattle.model.specs.Frames.{running_frame}
use Rattle.loader.specs.declared.programs.Step.{Step}
use Rattle.loader.specs.Steps.{step_at}
use Rattle.loader.specs.StepLists.{step_or_none}
use Rattle.instructions.specs.Operated.{may_wait, standing}
use Rattle.instructions.proofs.ReadinessLemmas.{waits-for-none, waits_marked}
use Rattle.instructions.proofs.readiness.never_waits.Goals as goal

pub returns : goal.returns
returns c = λ free courses m t.
    let program = c.args.program.now in
    let frames = c.args.frames.now in
    let f = running_frame frames in
    let some = c.is_unmarked.ensures.some c.if-not-is_unmarked.false in
    let unmarked = c.is_unmarked.ensures.unmarked c.if-not-is_unmarked.false in
    let is : c.step-step.result.now ≡ standing program f =
    c.step-step.ensures ∙ c.code.ensures.steps c.pc.result
    ∙ ap (λ method. step_or_none (step_at program method c.pc.result)) c.method.ensures
    ∙ ap (λ pc. step_or_none (step_at program f.method pc)) c.pc.ensures in
    waits_marked program frames some Unmarked unmarked courses m t
    ∙ waits-for-none program courses m t f (standing program f).operation
    (ap (λ (step : Step). may_wait step.operation) (sym is) ∙ sym c.may_wait.ensures ∙ c.if-may_wait.false)
