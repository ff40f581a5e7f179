use Rattle.std.proofs.Common.{◌≡◌, ◌∷◌, [], refl, ap, sym, rules, ◌∙◌}
use Rattle.model.specs.Collector.Places.{ref_of}
use Rattle.model.specs.Frames.{replaced_if_room, running_frame}
use Rattle.model.specs.Values.{births_of}
use Rattle.values.specs.Slots.{value_of}
use Rattle.instructions.specs.declared.kinds.Course.TheVariants.{Live}
use Rattle.instructions.specs.Acting.{shown, site_at, turned}
use Rattle.instructions.specs.Heaps.{shaded}
use Rattle.instructions.proofs.ActingLemmas.{goes_reported}
use Rattle.instructions.proofs.PushLemmas.{barrier, push_abrupt, push_done}
use Rattle.instructions.proofs.Scenes.{frames_shown}
use Rattle.instructions.proofs.machines.Machine.push.Goals as goal

pub returns-in-Ok-clause-step : goal.returns-in-Ok-clause-step
returns-in-Ok-clause-step c = λ scene here.
    let m = c.args.self.now in
    let program = c.args.program.now in
    let x = shown program scene m Live in
    let s = site_at program m x.world c.args.next in
    let heap : c.shade.new.self ≡ shaded m.heap (ref_of (value_of c.args.slot)) = search rules in
    rw c.to.ensures (goes_reported program scene m
    (record {
      thread = m.thread;
      frames = c.replace_slot_if_room.new.self;
      slots = m.slots;
      states = m.states;
      heap = c.shade.new.self;
      output = m.output;
    })
    here (births_of ((value_of c.args.slot) ∷ [])) refl refl refl (heap ∙ barrier m.heap (value_of c.args.slot)))
    ∙ sym (ap (turned program x m.thread) (push_done s m.frames (frames_shown program scene m here)
    c.replace_slot_if_room.new.self c.args.count (value_of c.args.slot)
    c.in-Ok.ensures.step))

pub returns-in-Err-clause-step : goal.returns-in-Err-clause-step
returns-in-Err-clause-step c = λ scene here.
    let m = c.args.self.now in
    let program = c.args.program.now in
    let x = shown program scene m Live in
    let f = running_frame m.frames in
    let s = site_at program m x.world c.args.next in
    let kept : c.replace_slot_if_room.new.self ≡ m.frames = search rules in
    (rw kept at c.complete_abruptly.ensures.step scene here)
    ∙ sym (ap (turned program x m.thread)
    (push_abrupt s m.frames (replaced_if_room c.args.next f c.args.count ((value_of c.args.slot) ∷ []))
    c.in-Err.abrupt
    c.in-Err.ensures.step))
