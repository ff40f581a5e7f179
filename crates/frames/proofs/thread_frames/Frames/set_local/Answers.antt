use Rattle.std.proofs.Common.{arith}
use Rattle.frames.proofs.LayoutLemmas.{opened, region_fits, sound_entry, view_entry}
use Rattle.frames.proofs.thread_frames.Frames.set_local.Goals as goal

pub overflow_add-place : goal.overflow_add-place
overflow_add-place c =
    let o = opened _ _ _ _ _ c.self.invariant c.self.view_is c.requires
    (rw c.deref.ensures at c.running-running.ensures) in
    let fits = region_fits o in
    omega arith

pub put-requires : goal.put-requires
put-requires c =
    let o = opened _ _ _ _ _ c.self.invariant c.self.view_is c.requires
    (rw c.deref.ensures at c.running-running.ensures) in
    let fits = region_fits o in
    rw c.deref_mut.ensures.value (omega arith)

pub invariant_of-self : goal.invariant_of-self
invariant_of-self c =
    let o = opened _ _ _ _ _ c.self.invariant c.self.view_is c.requires
    (rw c.deref.ensures at c.running-running.ensures) in
    rw (c.put.ensures, c.deref_mut.ensures.value) (sound_entry o _ _ c.if-index-running.true)

pub returns-then-index-running : goal.returns-then-index-running
returns-then-index-running c =
    let o = opened _ _ _ _ _ c.self.invariant c.self.view_is c.requires
    (rw c.deref.ensures at c.running-running.ensures) in
    rw (c.put.ensures, c.deref_mut.ensures.value) (view_entry o _ _ c.if-index-running.true)
