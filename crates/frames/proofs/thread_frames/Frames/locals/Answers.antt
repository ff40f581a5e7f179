use Rattle.std.proofs.Common.{arith, sym}
use Rattle.frames.proofs.LayoutLemmas.{opened, region_fits, length-locals}
use Rattle.frames.proofs.thread_frames.Frames.locals.Goals as goal

pub returns-clause-count : goal.returns-clause-count
returns-clause-count c =
    let sound = rw (← c.deref.ensures) at c.self.invariant in
    let view = rw (← c.deref.ensures) at c.self.view_is in
    let o = opened _ _ _ _ _ sound view c.requires c.running.ensures in
    sym (length-locals o)

pub returns-clause-few : goal.returns-clause-few
returns-clause-few c =
    let sound = rw (← c.deref.ensures) at c.self.invariant in
    let view = rw (← c.deref.ensures) at c.self.view_is in
    let o = opened _ _ _ _ _ sound view c.requires c.running.ensures in
    let fits = region_fits o in
    omega arith
