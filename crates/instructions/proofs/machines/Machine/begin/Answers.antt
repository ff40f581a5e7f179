use Rattle.std.proofs.Common.{◌∙◌, arith, ap, length, refl}
use Rattle.instructions.specs.declared.machines.Machine.{Machine}
use Rattle.instructions.specs.Heaps.{HeapValue, all_shaded}
use Rattle.instructions.specs.OwnCalls.{begun_writes}
use Rattle.instructions.proofs.StartingLemmas.{begins_reported, numbered-alone}
use Rattle.instructions.proofs.machines.Machine.begin.Goals as goal

pub returns-clause-step : goal.returns-clause-step
returns-clause-step c = λ scene here lives.
    let m = c.args.self.now in
    let after : Machine = record {
      thread = m.thread;
      frames = c.discard.new.self;
      slots = m.slots;
      states = m.states;
      heap = c.shade_begun.new.heap;
      output = m.output;
    } in
    rw c.to.ensures
    (begins_reported c.args.program.now scene m after here c.args.courses.now lives c.args.next c.args.object
    c.args.begun c.requires.object c.discard.ensures
    refl refl refl (c.shade_begun.ensures
    ∙ ap (λ (h : HeapValue). all_shaded h (begun_writes c.args.object c.args.begun)) c.set_thread.ensures))

pub returns-clause-keeps : goal.returns-clause-keeps
returns-clause-keeps c =
    let m = c.args.self.now in
    let alone = numbered-alone c.args.program.now m.heap c.args.object (length c.args.courses.now) in
    rw (c.shade_begun.ensures, c.set_thread.ensures) (record {
      thread = refl;
      capacity = omega arith;
      slots = refl;
      states = refl;
      shape = alone.shape;
      classes = alone.classes;
      stored = alone.stored;
    })
