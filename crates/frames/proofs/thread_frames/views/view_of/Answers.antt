use Rattle.frames.proofs.ViewLemmas.{frame_of-copies}
use Rattle.frames.proofs.thread_frames.views.view_of.Goals as goal

pub returns : goal.returns
returns c = frame_of-copies c.args.units.now c.args.activation _ _ c.requires.fits c.in_ok-entries.ensures
    c.in_ok-values.ensures
