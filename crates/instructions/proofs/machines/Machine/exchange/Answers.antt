use Rattle.std.proofs.Common.{◌≡◌, ◌∷◌, [], refl, ap, sym, rules, ◌∙◌}
use Rattle.model.specs.Collector.Places.{ref_of}
use Rattle.model.specs.Completions.Completion.{Goes}
use Rattle.model.specs.Frames.{replaced, running_frame, with_running}
use Rattle.model.specs.Values.{births_of}
use Rattle.model.specs.Worlds.{with_thread}
use Rattle.model.specs.Worlds.Thread.{Live as LiveThread}
use Rattle.values.specs.Slots.{value_of}
use Rattle.instructions.specs.declared.kinds.Course.TheVariants.{Live}
use Rattle.instructions.specs.Acting.{shown, turned}
use Rattle.instructions.specs.Heaps.{shaded}
use Rattle.instructions.proofs.ActingLemmas.{goes_reported}
use Rattle.instructions.proofs.PushLemmas.{barrier}
use Rattle.instructions.proofs.Scenes.{frames_shown}
use Rattle.instructions.proofs.machines.Machine.exchange.Goals as goal

pub returns-clause-step : goal.returns-clause-step
returns-clause-step c = λ scene here.
    let m = c.args.self.now in
    let program = c.args.program.now in
    let f = running_frame m.frames in
    let x = shown program scene m Live in
    let heap : c.shade.new.self ≡ shaded m.heap (ref_of (value_of c.args.slot)) = search rules in
    rw c.to.ensures (goes_reported program scene m
    (record {
      thread = m.thread;
      frames = c.replace_slot.new.self;
      slots = m.slots;
      states = m.states;
      heap = c.shade.new.self;
      output = m.output;
    })
    here (births_of ((value_of c.args.slot) ∷ [])) refl refl refl (heap ∙ barrier m.heap (value_of c.args.slot)))
    ∙ ap (λ frames. turned program x m.thread (Goes (with_thread x.world m.thread (LiveThread frames))
    (births_of ((value_of c.args.slot) ∷ []))))
    (c.replace_slot.ensures
    ∙ ap (λ (fs : _). with_running fs (replaced c.args.next f c.args.count ((value_of c.args.slot) ∷ [])).frame)
    (sym (frames_shown program scene m here)))
