use Rattle.frames.proofs.PushLemmas.{room_for_next, pushed_next}
use Rattle.frames.proofs.thread_frames.Frames.push_all.Goals as goal

pub push-requires-clause-room : goal.push-requires-clause-room
push-requires-clause-room c = rw c.slot_of.ensures.value (room_for_next _ _ _ _ _ c.requires.some c.requires.room
    c.loop-value.invariant c.loop-value-test.true)

pub loop-value-preserved : goal.loop-value-preserved
loop-value-preserved c = pushed_next _ _ _ _ _ _ c.requires.some c.loop-value.invariant c.loop-value-test.true
    (rw c.slot_of.ensures.value at c.push.ensures)
