use Rattle.std.proofs.Common.{◌∙◌, sym}
use Rattle.model.specs.Ready.{is_ready}
use Rattle.instructions.proofs.CyclicLemmas.{passed-next}
use Rattle.instructions.proofs.state.State.ready_among.Goals as goal

pub loop-thread-preserved : goal.loop-thread-preserved
loop-thread-preserved c =
    let s = c.args.self.now in
    c.loop-thread.invariant
    ∙ passed-next (is_ready s.program s.machine.world) c.loop-thread.thread c.args.to c.loop-thread-test.true
    (sym c.is_ready.ensures ∙ c.if-is_ready.false)
