use Rattle.frames.proofs.RunningLemmas.{stores}
use Rattle.frames.proofs.thread_frames.Frames.store_units.Goals as goal

pub returns : goal.returns
returns c = stores _ _ _ _ _ _ _ c.requires.some c.discard_units.ensures c.put_local.ensures
