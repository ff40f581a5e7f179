use Rattle.std.proofs.Common.{◌∙◌, sym}
use Rattle.model.specs.Frames.{running_frame}
use Rattle.instructions.proofs.CallLemmas.{fault-past}
use Rattle.instructions.proofs.calls.has_arguments.Goals as goal

pub loop-above-preserved : goal.loop-above-preserved
loop-above-preserved c =
    fault-past c.args.kinds.now (running_frame c.args.frames.now).stack c.loop-above.above c.fault_below.result
    c.loop-above-test.true
    c.fault_below.ensures (sym c.is_some.ensures ∙ c.if-is_some.false)
    ∙ c.loop-above.invariant
