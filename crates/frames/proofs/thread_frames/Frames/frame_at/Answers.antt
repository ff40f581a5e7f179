use Rattle.std.proofs.Common.{sym, arith}
use Rattle.std.proofs.lemmas.Option.{slice_get_past}
use Rattle.frames.proofs.RootLemmas.{head-some, head-none}
use Rattle.frames.proofs.thread_frames.Frames.frame_at.Goals as goal

pub returns-then-frame-len : goal.returns-then-frame-len
returns-then-frame-len c =
    let sound = rw (← c.deref-parts.ensures) at c.self.invariant in
    let view = rw (← c.deref-parts.ensures) at c.self.view_is in
    let found = sym c.at-activation.ensures in
    sym (head-some _ _ _ _ _ _ sound view found)

pub returns-else-frame-len : goal.returns-else-frame-len
returns-else-frame-len c =
    let view = rw (← c.deref-parts.ensures) at c.self.view_is in
    sym (head-none _ _ _ _ view (slice_get_past c.deref-parts.result.now.activations c.args.frame
    (omega arith)))
