use Rattle.std.proofs.Common.{◌∙◌}
use Rattle.model.specs.Collector.Reached.{roots_of_thread}
use Rattle.exploring.proofs.WalkLemmas.{next_noted}
use Rattle.exploring.proofs.walk.note_threads.Goals as goal

pub loop-thread-preserved : goal.loop-thread-preserved
loop-thread-preserved c =
    next_noted roots_of_thread c.args.threads.now c.loop-thread.thread-index c.thread-item.result c.loop-thread.reaching c.note_thread.new.reaching
    c.in_ok-note_thread.ensures c.thread-item.is c.loop-thread-test.true
    ∙ c.loop-thread.invariant
