use Rattle.frames.proofs.RunningLemmas.{replaces}
use Rattle.frames.proofs.thread_frames.Frames.replace_units.Goals as goal

pub returns : goal.returns
returns c =
    rw (← c.slot_of.ensures.value) (replaces _ _ _ _ _ _ c.requires.some c.drop_values.ensures.left c.push.ensures)
