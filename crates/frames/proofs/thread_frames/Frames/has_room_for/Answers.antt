use Rattle.std.proofs.Common.{arith}
use Rattle.frames.proofs.LayoutLemmas.{has_room-few}
use Rattle.frames.proofs.thread_frames.Frames.has_room_for.Goals as goal

pub returns-then-len-lt-FRAMES : goal.returns-then-len-lt-FRAMES
returns-then-len-lt-FRAMES c =
    let sound = rw (← c.deref-parts.ensures) at c.self.invariant in
    let view = rw (← c.deref-parts.ensures) at c.self.view_is in
    has_room-few _ _ _ _ _ _ _ sound view (omega arith)
    c.if-len-lt-FRAMES.true
