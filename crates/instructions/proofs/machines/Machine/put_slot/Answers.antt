use Rattle.std.proofs.Common.{◌≡◌, refl, rules, ap, ◌∙◌}
use Rattle.std.specs.Prelude.{slice_set}
use Rattle.model.specs.Collector.Places.{ref_of}
use Rattle.linking.specs.Storages.{shown_storage}
use Rattle.instructions.specs.Heaps.{shaded}
use Rattle.instructions.proofs.PushLemmas.{barrier, put_fault_reported, put_reported}
use Rattle.instructions.proofs.machines.Machine.put_slot.Goals as goal

pub returns-in-Ok-clause-step : goal.returns-in-Ok-clause-step
returns-in-Ok-clause-step c = λ scene here.
    let m = c.args.self.now in
    let program = c.args.program.now in
    let v = c.in-Ok.value in
    let heap : c.shade.new.self ≡ shaded m.heap (ref_of v) = search rules in
    rw c.to.ensures (put_reported program scene m
    (record {
      thread = m.thread;
      frames = c.discard.new.self;
      slots = c.put.new.self;
      states = m.states;
      heap = c.shade.new.self;
      output = m.output;
    })
    here c.args.next c.args.slot (shown_storage c.args.storage) v _ (rw c.kind.ensures at c.in-Ok.ensures.value)
    c.discard.ensures (c.put.ensures ∙ ap (slice_set m.slots c.args.slot) c.kept.ensures) refl refl
    (heap ∙ barrier m.heap v))

pub returns-in-Err-clause-step : goal.returns-in-Err-clause-step
returns-in-Err-clause-step c = λ scene here.
    put_fault_reported c.args.program.now scene c.args.self.now c.args.self.now here c.args.next c.args.slot
    (shown_storage c.args.storage) c.in-Err.fault _ (rw c.kind.ensures at c.in-Err.ensures.value)
