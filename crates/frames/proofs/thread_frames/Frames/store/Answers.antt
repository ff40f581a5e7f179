use Rattle.frames.proofs.RunningLemmas.{stores}
use Rattle.frames.proofs.thread_frames.Frames.store.Goals as goal

pub returns : goal.returns
returns c = stores _ _ _ _ _ _ _ c.requires.some c.discard.ensures c.put_local.ensures
