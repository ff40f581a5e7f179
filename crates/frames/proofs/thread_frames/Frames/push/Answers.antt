use Rattle.std.proofs.Common.{refl, subst, sym, ◌+◌, arith, length-set}
use Rattle.std.proofs.lemmas.List.{take-set-le}
use Rattle.values.specs.Slots.{entry_of}
use Rattle.frames.specs.declared.activations.Activation.{Activation}
use Rattle.frames.specs.Activations.{Fits}
use Rattle.frames.proofs.LayoutLemmas.{fits_in_units, fits_with, opened, sound_put, pushes, view_push_value}
use Rattle.frames.proofs.LayoutLemmas.{region_fits}
use Rattle.frames.proofs.thread_frames.Frames.push.Goals as goal

pub set_stack-requires-clause-fits : goal.set_stack-requires-clause-fits
set_stack-requires-clause-fits c =
    let sound = rw (← c.deref_mut-parts.ensures.value) at c.self.invariant in
    let view = rw (← c.deref_mut-parts.ensures.value) at c.self.view_is in
    let o = opened _ _ _ _ _ sound view c.requires.some c.running-running.ensures in
    let running = c.running-running.result in
    let p = pushes o (entry_of c.args.slot) c.requires.room in
    let values = running.values + 1 in
    let taken = running.taken + c.units_in.result in
    subst (λ (last : Activation). Fits (record last { pc = running.pc; values = values; taken = taken }))
    c.running-running.ensures
    (rw c.units_in.ensures (fits_with _ running running.pc values _ p.3 (fits_in_units o)))

pub overflow_add-top : goal.overflow_add-top
overflow_add-top c =
    let sound = rw (← c.deref_mut-parts.ensures.value) at c.self.invariant in
    let view = rw (← c.deref_mut-parts.ensures.value) at c.self.view_is in
    let o = opened _ _ _ _ _ sound view c.requires.some c.running-running.ensures in
    let fits = region_fits o in
    omega arith

pub overflow_add-top-2 : goal.overflow_add-top-2
overflow_add-top-2 c =
    let sound = rw (← c.deref_mut-parts.ensures.value) at c.self.invariant in
    let view = rw (← c.deref_mut-parts.ensures.value) at c.self.view_is in
    let o = opened _ _ _ _ _ sound view c.requires.some c.running-running.ensures in
    let fits = region_fits o in
    omega arith

pub overflow_add-running : goal.overflow_add-running
overflow_add-running c =
    let sound = rw (← c.deref_mut-parts.ensures.value) at c.self.invariant in
    let view = rw (← c.deref_mut-parts.ensures.value) at c.self.view_is in
    let o = opened _ _ _ _ _ sound view c.requires.some c.running-running.ensures in
    let fits = region_fits o in
    omega arith

pub overflow_add-taken : goal.overflow_add-taken
overflow_add-taken c =
    let sound = rw (← c.deref_mut-parts.ensures.value) at c.self.invariant in
    let view = rw (← c.deref_mut-parts.ensures.value) at c.self.view_is in
    let o = opened _ _ _ _ _ sound view c.requires.some c.running-running.ensures in
    let fits = region_fits o in
    let p = pushes o (entry_of c.args.slot) c.requires.room in
    omega (arith, c.units_in.ensures)

pub put-requires : goal.put-requires
put-requires c =
    let sound = rw (← c.deref_mut-parts.ensures.value) at c.self.invariant in
    let view = rw (← c.deref_mut-parts.ensures.value) at c.self.view_is in
    let o = opened _ _ _ _ _ sound view c.requires.some c.running-running.ensures in
    let p = pushes o (entry_of c.args.slot) c.requires.room in
    omega arith

pub invariant_of-self : goal.invariant_of-self
invariant_of-self c =
    let sound = rw (← c.deref_mut-parts.ensures.value) at c.self.invariant in
    let view = rw (← c.deref_mut-parts.ensures.value) at c.self.view_is in
    let o = opened _ _ _ _ _ sound view c.requires.some c.running-running.ensures in
    let p = pushes o (entry_of c.args.slot) c.requires.room in
    rw (c.put.ensures, c.set_stack.ensures, c.units_in.ensures, ← c.running-running.ensures)
    (sound_put o _ _ (length-set _ _ _) (sym (take-set-le _ _ _ _ (omega arith))) p.3 refl)

pub returns : goal.returns
returns c =
    let sound = rw (← c.deref_mut-parts.ensures.value) at c.self.invariant in
    let view = rw (← c.deref_mut-parts.ensures.value) at c.self.view_is in
    let o = opened _ _ _ _ _ sound view c.requires.some c.running-running.ensures in
    let p = pushes o (entry_of c.args.slot) c.requires.room in
    rw (c.put.ensures, c.set_stack.ensures, c.units_in.ensures, ← c.running-running.ensures)
    (view_push_value o (entry_of c.args.slot) p.1)
