use Rattle.std.proofs.Common.{IfSome, Option, subst}
use Rattle.model.specs.Worlds.{World}
use Rattle.exploring.specs.Ahead.{IsPlainTurn}
use Rattle.exploring.proofs.AheadLemmas.{goes_nowhere, goes_one_more}
use Rattle.exploring.proofs.ahead.steps_ahead.Goals as goal

pub loop-step-init : goal.loop-step-init
loop-step-init c = goes_nowhere c.args.transitions.now.program c.args.thread c.args.world

pub loop-step-preserved : goal.loop-step-preserved
loop-step-preserved c =
    let program = c.args.transitions.now.program in
    goes_one_more program c.args.thread c.loop-step.step c.args.world c.loop-step.world c.in-Some.after
    c.loop-step.invariant
    (subst (λ (o : Option World). IfSome o (IsPlainTurn program c.loop-step.world c.args.thread)) c.in-Some.is
    c.in_ok-after.ensures)
