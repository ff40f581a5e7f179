use Rattle.std.proofs.Common.{refl, subst}
use Rattle.frames.proofs.LayoutLemmas.{fits_in_units, fits_with, opened, sound_put, view_put, running_is, stands_last}
use Rattle.frames.specs.declared.activations.Activation.{Activation}
use Rattle.frames.specs.Activations.{Fits}
use Rattle.frames.proofs.thread_frames.Frames.go_to.Goals as goal

pub set_stack-requires-clause-fits : goal.set_stack-requires-clause-fits
set_stack-requires-clause-fits c =
    let sound = rw (← c.deref_mut-parts.ensures.value) at c.self.invariant in
    let view = rw (← c.deref_mut-parts.ensures.value) at c.self.view_is in
    let o = opened _ _ _ _ _ sound view c.requires c.running-running.ensures in
    let running = c.running-running.result in
    subst (λ (last : Activation). Fits (record last { pc = c.args.pc; values = running.values; taken = running.taken }))
    c.running-running.ensures
    (fits_with _ running c.args.pc running.values running.taken (stands_last o).stands (fits_in_units o))

pub invariant_of-self : goal.invariant_of-self
invariant_of-self c =
    let sound = rw (← c.deref_mut-parts.ensures.value) at c.self.invariant in
    let view = rw (← c.deref_mut-parts.ensures.value) at c.self.view_is in
    let o = opened _ _ _ _ _ sound view c.requires c.running-running.ensures in
    let stands = (stands_last o).stands in
    rw (c.set_stack.ensures, ← c.running-running.ensures)
    (sound_put o _ _ refl refl (record { begins = refl; taken_is = stands.taken_is; fits = stands.fits }) refl)

pub returns : goal.returns
returns c =
    let sound = rw (← c.deref_mut-parts.ensures.value) at c.self.invariant in
    let view = rw (← c.deref_mut-parts.ensures.value) at c.self.view_is in
    let o = opened _ _ _ _ _ sound view c.requires c.running-running.ensures in
    rw (c.set_stack.ensures, ← c.running-running.ensures, running_is o) (view_put o _ _ refl)
