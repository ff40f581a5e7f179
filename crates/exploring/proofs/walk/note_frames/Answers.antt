use Rattle.std.proofs.Common.{◌∙◌}
use Rattle.model.specs.Collector.Reached.{roots_of_frame}
use Rattle.exploring.proofs.WalkLemmas.{next_noted}
use Rattle.exploring.proofs.walk.note_frames.Goals as goal

pub loop-frame-preserved : goal.loop-frame-preserved
loop-frame-preserved c =
    next_noted roots_of_frame c.args.frames.now c.loop-frame.frame-index c.frame-item.result c.loop-frame.reaching c.note_frame.new.reaching
    c.in_ok-note_frame.ensures c.frame-item.is c.loop-frame-test.true
    ∙ c.loop-frame.invariant
