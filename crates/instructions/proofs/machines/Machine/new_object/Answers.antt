-- A new object, by the cell that is taken for it, if one has room, and by the room on the stack.
use Rattle.std.proofs.Common.{◌≡◌, ◌<◌, Some, length, refl, sym, ◌∙◌, true, arith}
use Rattle.model.specs.Accounts.{has_room, take_cell}
use Rattle.model.specs.Frames.{running, running_frame}
use Rattle.model.specs.Values.{units_of_all}
use Rattle.linking.specs.ClassTables.{class_tables, defaults_in}
use Rattle.instructions.specs.declared.kinds.Kind.TheVariants.{Instance}
use Rattle.instructions.proofs.CreatedLemmas.{blocked_reported, free_taken, new_reported, unblocked}
use Rattle.instructions.proofs.StoredLemmas.{created-classes, created-shape, created-stored, defaults-stored}
use Rattle.instructions.proofs.Scenes.{running_some}
use Rattle.instructions.proofs.Throwables.{created_none, new_none}
use Rattle.instructions.proofs.machines.Machine.new_object.Goals as goal

pub returns-then-lacks_unit-clause-step : goal.returns-then-lacks_unit-clause-step
returns-then-lacks_unit-clause-step c = λ scene here.
    let m = c.args.self.now in
    let program = c.args.program.now in
    let words_are : c.defaults-words.result.now
    ≡ defaults_in (class_tables program) c.args.class = c.defaults-words.ensures
    ∙ rw c.tables.ensures.classes_are refl in
    let runs : running m.frames ≡ Some (running_frame m.frames) = running_some m.frames c.requires.ready.some in
    rw (← words_are) (blocked_reported program (running_frame m.frames) scene m here runs c.args.next 0
    (Instance c.args.class)
    c.defaults-words.result.now (sym c.lacks_unit.ensures ∙ c.if-lacks_unit.true))

pub returns-in-Some-clause-step : goal.returns-in-Some-clause-step
returns-in-Some-clause-step c = λ scene here.
    let m = c.args.self.now in
    let program = c.args.program.now in
    let f = running_frame m.frames in
    let words = c.defaults-words.result.now in
    let words_are : words ≡ defaults_in (class_tables program) c.args.class = c.defaults-words.ensures
    ∙ rw c.tables.ensures.classes_are refl in
    let runs : running m.frames ≡ Some f = running_some m.frames c.requires.ready.some in
    let free : has_room m.heap.account (length words) ≡ true =
    free_taken (take_cell m.heap.account (length words)) c.in-Some.reference c.in-Some.ensures.reference in
    let room : units_of_all f.stack < f.room =
    unblocked f.room (units_of_all f.stack) (has_room m.heap.account (length words)) free (sym c.lacks_unit.ensures
    ∙ c.if-lacks_unit.false) in
    rw (← words_are) (new_reported program f scene m here runs c.args.next 0 (Instance c.args.class) words
    (record {
      thread = m.thread;
      frames = c.push_reference.new.frames;
      slots = m.slots;
      states = m.states;
      heap = c.shade.new.self;
      output = m.output;
    }) c.in-Some.reference
    (take_cell m.heap.account (length words)) refl c.in-Some.ensures.reference room c.push_reference.ensures
    (c.shade.ensures ∙ rw c.create.ensures.heap refl) refl refl refl)

pub returns-in-Some-clause-keeps : goal.returns-in-Some-clause-keeps
returns-in-Some-clause-keeps c =
    let m = c.args.self.now in
    let program = c.args.program.now in
    let words_are : c.defaults-words.result.now
    ≡ defaults_in (class_tables program) c.args.class = c.defaults-words.ensures
    ∙ rw c.tables.ensures.classes_are refl in
    record {
      thread = refl;
      capacity = omega arith;
      slots = refl;
      states = refl;
      shape = rw (c.shade.ensures, c.create.ensures.heap) (created-shape m.heap (Instance c.args.class)
          c.defaults-words.result.now _);
      classes = rw (c.shade.ensures, c.create.ensures.heap) (created-classes m.heap (Instance c.args.class)
          c.defaults-words.result.now _);
      stored = λ stored. rw (c.shade.ensures, c.create.ensures.heap)
          (created-stored program m.heap (Instance c.args.class) c.defaults-words.result.now _ stored
          (rw words_are (defaults-stored program c.args.class)));
    }

pub throw_memory_error-requires : goal.throw_memory_error-requires
throw_memory_error-requires c =
    let m = c.args.self.now in
    let same : c.create.new.self ≡ m.heap = c.create.ensures.heap ∙ created_none m.heap (Instance c.args.class)
    c.defaults-words.result.now _ c.in-None.ensures.reference in
    rw same (record { ready = c.requires.ready })

pub returns-in-None : goal.returns-in-None
returns-in-None c =
    let m = c.args.self.now in
    let program = c.args.program.now in
    let words = c.defaults-words.result.now in
    let words_are : words ≡ defaults_in (class_tables program) c.args.class = c.defaults-words.ensures
    ∙ rw c.tables.ensures.classes_are refl in
    let same : c.create.new.self ≡ m.heap = c.create.ensures.heap ∙ created_none m.heap (Instance c.args.class) words _
    c.in-None.ensures.reference in
    record {
      step = λ scene here. rw (← words_are)
          (new_none program scene m here c.args.next 0 (Instance c.args.class) words
          (take_cell m.heap.account (length words)) c.throw_memory_error.new.self
          c.throw_memory_error.result refl c.in-None.ensures.reference (rw same at c.throw_memory_error.ensures.step));
      kept = rw same at c.throw_memory_error.ensures.kept;
      keeps = rw same at c.throw_memory_error.ensures.keeps;
    }
