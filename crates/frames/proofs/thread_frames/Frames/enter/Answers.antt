use Rattle.std.proofs.Common.{refl, arith, replicate}
use Rattle.std.proofs.lemmas.List.{length-replicate}
use Rattle.model.specs.declared.values.Entry.TheVariants.{Unset}
use Rattle.frames.specs.Activations.{opening}
use Rattle.frames.specs.Layout.{Stands}
use Rattle.frames.proofs.LayoutLemmas.{sound_push, view_push, has_room-facts, reaches, replaces}
use Rattle.frames.proofs.thread_frames.Frames.enter.Goals as goal

pub reach-requires : goal.reach-requires
reach-requires c =
    let sound = rw (← c.deref_mut-parts.ensures.value) at c.self.invariant in
    let view = rw (← c.deref_mut-parts.ensures.value) at c.self.view_is in
    let room = has_room-facts _ _ _ _ _ _ sound view c.requires in
    room.1

pub unset-requires : goal.unset-requires
unset-requires c =
    let sound = rw (← c.deref_mut-parts.ensures.value) at c.self.invariant in
    let view = rw (← c.deref_mut-parts.ensures.value) at c.self.view_is in
    let room = has_room-facts _ _ _ _ _ _ sound view c.requires in
    let r = reaches _ _ _ _ _ _ sound view room.1 c.reach.ensures in
    let fits = r.fits in
    omega (arith, fits)

pub push-requires : goal.push-requires
push-requires c =
    let sound = rw (← c.deref_mut-parts.ensures.value) at c.self.invariant in
    let view = rw (← c.deref_mut-parts.ensures.value) at c.self.view_is in
    let room = has_room-facts _ _ _ _ _ _ sound view c.requires in
    let end = room.1 in
    record {
      few = room.0;
      fits = rw c.opening.ensures (record {
        inside = omega (arith, end);
        within = omega arith;
        few = omega (arith, end);
      });
    }

pub invariant_of-self : goal.invariant_of-self
invariant_of-self c =
    let sound = rw (← c.deref_mut-parts.ensures.value) at c.self.invariant in
    let view = rw (← c.deref_mut-parts.ensures.value) at c.self.view_is in
    let room = has_room-facts _ _ _ _ _ _ sound view c.requires in
    let r = reaches _ _ _ _ _ _ sound view room.1 c.reach.ensures in
    let fits = r.fits in
    let locals = c.args.max_locals in
    let u = replaces c.reach.new.self c.unset.new.self (replicate locals Unset) c.deref_mut-parts.result.now.used locals
    (length-replicate locals Unset) (omega (arith, fits)) c.unset.ensures in
    let a = opening c.args.method c.deref_mut-parts.result.now.used c.args.max_locals c.args.max_stack in
    let stands : Stands c.unset.new.self c.deref_mut-parts.result.now.used a = record {
      begins = refl;
      taken_is = refl;
      fits = omega arith;
    } in
    let long = u.long in
    let few = r.sound.units_are in
    rw (c.push.ensures, c.opening.ensures) (sound_push c.reach.new.self _ _ _ _ a r.sound (omega (arith, long, few))
    u.same stands refl
    (omega (arith, long, fits)) room.0)

pub returns : goal.returns
returns c =
    let sound = rw (← c.deref_mut-parts.ensures.value) at c.self.invariant in
    let view = rw (← c.deref_mut-parts.ensures.value) at c.self.view_is in
    let room = has_room-facts _ _ _ _ _ _ sound view c.requires in
    let r = reaches _ _ _ _ _ _ sound view room.1 c.reach.ensures in
    let fits = r.fits in
    let locals = c.args.max_locals in
    let u = replaces c.reach.new.self c.unset.new.self (replicate locals Unset) c.deref_mut-parts.result.now.used locals
    (length-replicate locals Unset) (omega (arith, fits)) c.unset.ensures in
    rw (c.push.ensures, c.opening.ensures, ← u.part_is) (view_push c.reach.new.self _ _ _ _ _ r.sound r.view u.same)
