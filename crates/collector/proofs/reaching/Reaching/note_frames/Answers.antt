use Rattle.std.proofs.Common.{◌∙◌}
use Rattle.model.specs.Worlds.{frames_at}
use Rattle.collector.proofs.ListsNoted.{frame_step}
use Rattle.collector.proofs.reaching.Reaching.note_frames.Goals as goal

pub loop-frame-preserved : goal.loop-frame-preserved
loop-frame-preserved g c =
    frame_step (frames_at (g.R.References.world c.args.references.now) c.args.thread) c.loop-frame.frame
    c.frames-frame-end.result c.loop-frame.self c.note_frame.new.self
    c.in_ok-note_frame.ensures c.loop-frame-test.true c.frames-frame-end.ensures
    ∙ c.loop-frame.invariant
