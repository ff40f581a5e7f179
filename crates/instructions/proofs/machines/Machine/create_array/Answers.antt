use Rattle.std.proofs.Common.{◌≡◌, ◌<◌, ◌&&◌, ap, sym, subst, Some, true, drop, replicate, refl, ◌∙◌, arith}
use Rattle.std.specs.Prelude.{nat_le}
use Rattle.std.proofs.lemmas.List.{length-replicate}
use Rattle.model.specs.declared.values.Value.{Value}
use Rattle.model.specs.Accounts.{has_room, take_cell}
use Rattle.model.specs.Frames.{running_frame}
use Rattle.model.specs.Values.{units_of_all}
use Rattle.instructions.specs.declared.kinds.Kind.TheVariants.{Array}
use Rattle.instructions.specs.Heaps.{created, shaded}
use Rattle.instructions.specs.TypeNumbers.{element_default}
use Rattle.instructions.proofs.CreatedLemmas.{blocked_reported, free_taken, new_reported, unblocked}
use Rattle.instructions.proofs.Scenes.{running_some}
use Rattle.instructions.proofs.StoredLemmas.{created-classes, created-shape, created-stored}
use Rattle.instructions.proofs.Throwables.{created_none, new_none}
use Rattle.instructions.proofs.machines.Machine.create_array.Goals as goal

pub returns-then-lacks_unit-clause-step : goal.returns-then-lacks_unit-clause-step
returns-then-lacks_unit-clause-step c = λ scene here.
    let m = c.args.self.now in
    let program = c.args.program.now in
    let f = running_frame m.frames in
    let v = element_default c.args.elements in
    blocked_reported program f scene m here (running_some m.frames c.requires.ready.some) c.args.next 1
    (Array c.args.elements) (replicate c.args.count v)
    (subst (λ n. (nat_le f.room (units_of_all (drop 1 f.stack)) && has_room m.heap.account n) ≡ true)
    (sym (length-replicate {A = Value} c.args.count v)) (sym c.lacks_unit.ensures ∙ c.if-lacks_unit.true))

pub returns-in-Some-clause-step : goal.returns-in-Some-clause-step
returns-in-Some-clause-step c = λ scene here.
    let m = c.args.self.now in
    let program = c.args.program.now in
    let f = running_frame m.frames in
    let count = c.args.count in
    let v = element_default c.args.elements in
    let free : has_room m.heap.account count ≡ true =
    free_taken (take_cell m.heap.account count) c.in-Some.reference c.in-Some.ensures.reference in
    let room : units_of_all (drop 1 f.stack) < f.room =
    unblocked f.room (units_of_all (drop 1 f.stack)) (has_room m.heap.account count) free (sym c.lacks_unit.ensures
    ∙ c.if-lacks_unit.false) in
    let heap : c.shade.new.self
    ≡ shaded (created m.heap (Array c.args.elements) (replicate count v) (take_cell m.heap.account count))
    (Some c.in-Some.reference) =
    c.shade.ensures ∙ rw (c.create_filled.ensures.heap, c.element_default.ensures) refl in
    new_reported program f scene m here (running_some m.frames c.requires.ready.some) c.args.next 1
    (Array c.args.elements) (replicate count v)
    (record {
      thread = m.thread;
      frames = c.replace.new.self;
      slots = m.slots;
      states = m.states;
      heap = c.shade.new.self;
      output = m.output;
    })
    c.in-Some.reference (take_cell m.heap.account count)
    (ap (take_cell m.heap.account) (length-replicate {A = Value} count v))
    c.in-Some.ensures.reference room c.replace.ensures heap refl refl refl

pub returns-in-Some-clause-keeps : goal.returns-in-Some-clause-keeps
returns-in-Some-clause-keeps c =
    let m = c.args.self.now in
    let words = replicate c.args.count c.element_default.result in
    record {
      thread = refl;
      capacity = omega arith;
      slots = refl;
      states = refl;
      shape = rw (c.shade.ensures, c.create_filled.ensures.heap) (created-shape m.heap (Array c.args.elements) words _);
      classes = rw (c.shade.ensures, c.create_filled.ensures.heap) (created-classes m.heap (Array c.args.elements) words
          _);
      stored = λ stored. rw (c.shade.ensures, c.create_filled.ensures.heap)
          (created-stored c.args.program.now m.heap (Array c.args.elements) words _ stored c.requires.element);
    }

pub throw_memory_error-requires : goal.throw_memory_error-requires
throw_memory_error-requires c =
    let m = c.args.self.now in
    let same : c.create_filled.new.self ≡ m.heap = c.create_filled.ensures.heap
    ∙ created_none m.heap (Array c.args.elements) (replicate c.args.count c.element_default.result) _
    c.in-None.ensures.reference in
    rw same (record { ready = c.requires.ready })

pub returns-in-None : goal.returns-in-None
returns-in-None c =
    let m = c.args.self.now in
    let program = c.args.program.now in
    let count = c.args.count in
    let words = replicate count (element_default c.args.elements) in
    let same : c.create_filled.new.self ≡ m.heap = c.create_filled.ensures.heap
    ∙ created_none m.heap (Array c.args.elements) (replicate count c.element_default.result) _
    c.in-None.ensures.reference in
    record {
      step = λ scene here.
          new_none program scene m here c.args.next 1 (Array c.args.elements) words (take_cell m.heap.account count)
          c.throw_memory_error.new.self
          c.throw_memory_error.result
          (ap (take_cell m.heap.account) (length-replicate {A = Value} count (element_default c.args.elements)))
          c.in-None.ensures.reference (rw same at c.throw_memory_error.ensures.step);
      kept = rw same at c.throw_memory_error.ensures.kept;
      keeps = rw same at c.throw_memory_error.ensures.keeps;
    }
