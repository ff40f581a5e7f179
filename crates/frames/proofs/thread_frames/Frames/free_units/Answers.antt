use Rattle.std.proofs.Common.{◌≡◌, ap, arith, refl}
use Rattle.model.specs.Frames.{Frame, running_frame}
use Rattle.model.specs.Values.{units_of_all}
use Rattle.frames.specs.Activations.{last_of}
use Rattle.frames.proofs.LayoutLemmas.{opened, stands_last, stack_is, running_is, region_fits}
use Rattle.frames.proofs.thread_frames.Frames.free_units.Goals as goal

pub returns-clause-units : goal.returns-clause-units
returns-clause-units c =
    let sound = rw (← c.deref.ensures) at c.self.invariant in
    let view = rw (← c.deref.ensures) at c.self.view_is in
    let a = last_of c.deref.result.now.activations in
    let o = opened _ _ _ _ a sound view c.requires refl in
    let fits = region_fits o in
    let taken = (stands_last o).stands.taken_is in
    let units = ap units_of_all (stack_is o) in
    let room : (running_frame c.args.self.now).room ≡ a.room = ap (λ (f : Frame). f.room) (running_is o) in
    let free = c.free.ensures.units in
    omega (arith, fits, taken, units, room, free)

pub returns-clause-few : goal.returns-clause-few
returns-clause-few c =
    let sound = rw (← c.deref.ensures) at c.self.invariant in
    let view = rw (← c.deref.ensures) at c.self.view_is in
    let a = last_of c.deref.result.now.activations in
    let o = opened _ _ _ _ a sound view c.requires refl in
    let fits = region_fits o in
    let room : (running_frame c.args.self.now).room ≡ a.room = ap (λ (f : Frame). f.room) (running_is o) in
    omega (arith, fits, room)
