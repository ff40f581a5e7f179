use Rattle.std.proofs.Common.{◌∙◌, sym}
use Rattle.model.specs.Frames.{running_frame}
use Rattle.instructions.proofs.CallLemmas.{fault-found, fault-past}
use Rattle.instructions.proofs.calls.argument_fault.Goals as goal

pub returns-then-is_some : goal.returns-then-is_some
returns-then-is_some c =
    fault-found c.args.kinds.now (running_frame c.args.frames.now).stack c.loop-above.above c.fault_below-fault.result
    c.loop-above-test.true
    c.fault_below-fault.ensures (sym c.is_some.ensures ∙ c.if-is_some.true)
    ∙ c.loop-above.invariant

pub loop-above-preserved : goal.loop-above-preserved
loop-above-preserved c =
    fault-past c.args.kinds.now (running_frame c.args.frames.now).stack c.loop-above.above c.fault_below-fault.result
    c.loop-above-test.true
    c.fault_below-fault.ensures (sym c.is_some.ensures ∙ c.if-is_some.false)
    ∙ c.loop-above.invariant
