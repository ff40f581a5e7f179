use Rattle.std.proofs.Common.{refl, arith}
use Rattle.frames.specs.Activations.{last_of}
use Rattle.frames.proofs.LayoutLemmas.{fits_in_units, fits_with, opened, sound_put, view_put, running_is, stands_last}
use Rattle.frames.proofs.thread_frames.Frames.clear.Goals as goal

pub set_stack-requires-clause-fits : goal.set_stack-requires-clause-fits
set_stack-requires-clause-fits c =
    let sound = rw (← c.deref_mut-parts.ensures.value) at c.self.invariant in
    let view = rw (← c.deref_mut-parts.ensures.value) at c.self.view_is in
    let a = last_of c.deref_mut-parts.result.now.activations in
    let o = opened _ _ _ _ a sound view c.requires refl in
    fits_with c.deref_mut-parts.result.now.units a c.args.pc 0 0
    (record { begins = refl; taken_is = refl; fits = omega arith })
    (fits_in_units o)

pub invariant_of-self : goal.invariant_of-self
invariant_of-self c =
    let sound = rw (← c.deref_mut-parts.ensures.value) at c.self.invariant in
    let view = rw (← c.deref_mut-parts.ensures.value) at c.self.view_is in
    let o = opened _ _ _ _ (last_of c.deref_mut-parts.result.now.activations) sound view c.requires refl in
    let stands = (stands_last o).stands in
    rw c.set_stack.ensures (sound_put o _ _ refl refl (record { begins = refl; taken_is = refl; fits = omega arith })
    refl)

pub returns : goal.returns
returns c =
    let sound = rw (← c.deref_mut-parts.ensures.value) at c.self.invariant in
    let view = rw (← c.deref_mut-parts.ensures.value) at c.self.view_is in
    let o = opened _ _ _ _ (last_of c.deref_mut-parts.result.now.activations) sound view c.requires refl in
    rw (c.set_stack.ensures, running_is o) (view_put o _ _ refl)
