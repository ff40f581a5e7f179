use Rattle.std.proofs.Common.{length}
use Rattle.model.specs.Observers.{ideal}
use Rattle.page_sessions.proofs.ThreadTexts.{one_more}
use Rattle.page_sessions.proofs.looking.threads_of.Goals as goal

pub loop-number-preserved : goal.loop-number-preserved
loop-number-preserved c =
    let v = c.args.world.now in
    rw c.in_ok-add_thread.ensures
    (one_more v (length (ideal v).threads) c.loop-number.number c.loop-number.text.items _
    (rw c.thread_count-number-end.ensures at c.loop-number-test.true) c.loop-number.invariant)
