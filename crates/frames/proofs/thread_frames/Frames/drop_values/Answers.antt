use Rattle.std.proofs.Common.{refl, subst, ◌-◌}
use Rattle.frames.proofs.LayoutLemmas.{fits_in_units, fits_with, opened, sound_put, drops, view_drop}
use Rattle.frames.specs.declared.activations.Activation.{Activation}
use Rattle.frames.specs.Activations.{Fits}
use Rattle.frames.proofs.thread_frames.Frames.drop_values.Goals as goal

pub set_stack-requires-clause-fits : goal.set_stack-requires-clause-fits
set_stack-requires-clause-fits c =
    let sound = rw (← c.deref_mut-parts.ensures.value) at c.self.invariant in
    let view = rw (← c.deref_mut-parts.ensures.value) at c.self.view_is in
    let o = opened _ _ _ _ _ sound view c.requires.some c.running-running.ensures in
    let running = c.running-running.result in
    let values = running.values - c.args.count in
    let taken = running.taken - c.args.units in
    subst (λ (last : Activation). Fits (record last { pc = c.args.next; values = values; taken = taken }))
    c.running-running.ensures
    (fits_with _ running c.args.next values taken (drops o _ _ c.requires.there c.requires.sized).3 (fits_in_units o))

pub overflow_sub-values : goal.overflow_sub-values
overflow_sub-values c =
    let sound = rw (← c.deref_mut-parts.ensures.value) at c.self.invariant in
    let view = rw (← c.deref_mut-parts.ensures.value) at c.self.view_is in
    let o = opened _ _ _ _ _ sound view c.requires.some c.running-running.ensures in
    (drops o _ _ c.requires.there c.requires.sized).0

pub overflow_sub-running : goal.overflow_sub-running
overflow_sub-running c =
    let sound = rw (← c.deref_mut-parts.ensures.value) at c.self.invariant in
    let view = rw (← c.deref_mut-parts.ensures.value) at c.self.view_is in
    let o = opened _ _ _ _ _ sound view c.requires.some c.running-running.ensures in
    (drops o _ _ c.requires.there c.requires.sized).1

pub invariant_of-self : goal.invariant_of-self
invariant_of-self c =
    let sound = rw (← c.deref_mut-parts.ensures.value) at c.self.invariant in
    let view = rw (← c.deref_mut-parts.ensures.value) at c.self.view_is in
    let o = opened _ _ _ _ _ sound view c.requires.some c.running-running.ensures in
    let stands = (drops o _ _ c.requires.there c.requires.sized).3 in
    rw (c.set_stack.ensures, ← c.running-running.ensures)
    (sound_put o _ _ refl refl (record { begins = stands.begins; taken_is = stands.taken_is; fits = stands.fits })
    refl)

pub returns-clause-left : goal.returns-clause-left
returns-clause-left c =
    let sound = rw (← c.deref_mut-parts.ensures.value) at c.self.invariant in
    let view = rw (← c.deref_mut-parts.ensures.value) at c.self.view_is in
    let o = opened _ _ _ _ _ sound view c.requires.some c.running-running.ensures in
    rw (c.set_stack.ensures, ← c.running-running.ensures)
    (view_drop o _ _ _ (drops o _ _ c.requires.there c.requires.sized).0)

pub returns-clause-room : goal.returns-clause-room
returns-clause-room c =
    let sound = rw (← c.deref_mut-parts.ensures.value) at c.self.invariant in
    let view = rw (← c.deref_mut-parts.ensures.value) at c.self.view_is in
    let o = opened _ _ _ _ _ sound view c.requires.some c.running-running.ensures in
    (drops o _ _ c.requires.there c.requires.sized).2
