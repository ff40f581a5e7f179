use Rattle.std.proofs.Common.{arith}
use Rattle.frames.proofs.LayoutLemmas.{all_fit, opened, sound_leave, view_leave}
use Rattle.frames.proofs.thread_frames.Frames.leave.Goals as goal

pub pop-requires-clause-fits : goal.pop-requires-clause-fits
pop-requires-clause-fits c =
    let sound = rw (← c.deref_mut-parts.ensures.value) at c.self.invariant in
    let sound = sound in
    let used = sound.used_is in
    let few = sound.units_are in
    all_fit c.deref_mut-parts.result.now.units 0 c.deref_mut-parts.result.now.used
    c.deref_mut-parts.result.now.activations sound.laid_out (omega (arith, used, few))

pub invariant_of-self : goal.invariant_of-self
invariant_of-self c =
    let sound = rw (← c.deref_mut-parts.ensures.value) at c.self.invariant in
    let view = rw (← c.deref_mut-parts.ensures.value) at c.self.view_is in
    let o = opened _ _ _ _ _ sound view c.requires c.running.ensures in
    rw c.pop.ensures (sound_leave o)

pub returns : goal.returns
returns c =
    let sound = rw (← c.deref_mut-parts.ensures.value) at c.self.invariant in
    let view = rw (← c.deref_mut-parts.ensures.value) at c.self.view_is in
    let o = opened _ _ _ _ _ sound view c.requires c.running.ensures in
    rw c.pop.ensures (view_leave o)
