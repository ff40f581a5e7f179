use Rattle.std.proofs.Common.{sym, arith}
use Rattle.frames.proofs.RootLemmas.{region_of}
use Rattle.frames.proofs.ViewLemmas.{views_more}
use Rattle.frames.proofs.thread_frames.Frames.views.Goals as goal

pub view_of-requires : goal.view_of-requires
view_of-requires c =
    let sound = rw (← c.deref-parts.ensures) at c.self.invariant in
    let region = region_of _ _ _ _ _ sound (sym c.at.ensures) in
    record { fits = omega arith; few = omega arith }

pub loop-depth-preserved : goal.loop-depth-preserved
loop-depth-preserved c = views_more _ _ _ _ _ _ _ (sym c.at.ensures) c.loop-depth.invariant c.in_ok-view_of.ensures
    c.in_ok-push.ensures.items
