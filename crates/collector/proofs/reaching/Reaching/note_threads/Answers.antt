use Rattle.std.proofs.Common.{◌∙◌}
use Rattle.collector.proofs.ListsNoted.{thread_step}
use Rattle.collector.proofs.reaching.Reaching.note_threads.Goals as goal

pub loop-thread-preserved : goal.loop-thread-preserved
loop-thread-preserved g c =
    thread_step (g.R.References.world c.args.references.now).threads c.loop-thread.thread c.threads-thread-end.result
    c.loop-thread.self c.note_frames.new.self
    c.in_ok-note_frames.ensures c.loop-thread-test.true c.threads-thread-end.ensures
    ∙ c.loop-thread.invariant
