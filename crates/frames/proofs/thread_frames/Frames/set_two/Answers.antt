use Rattle.frames.proofs.RunningLemmas.{sets_two}
use Rattle.frames.proofs.thread_frames.Frames.set_two.Goals as goal

pub returns : goal.returns
returns c = sets_two _ _ _ _ _ c.requires.some c.set_local.ensures c.set_local-2.ensures
