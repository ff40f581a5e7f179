use Rattle.frames.proofs.thread_frames.Frames.discard.Goals as goal

pub returns : goal.returns
returns c = c.drop_values.ensures.left
