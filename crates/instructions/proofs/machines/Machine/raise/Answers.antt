-- An exception that the machine makes, by the room that a cell has and by where it lands.
use Rattle.std.proofs.Common.{◌≡◌, ◌≢◌, [], true, refl, rules, ◌∙◌}
use Rattle.model.specs.declared.turns.Exception.TheVariants.{StackOverflow}
use Rattle.model.specs.Accounts.{has_room, take_cell}
use Rattle.instructions.proofs.StoredLemmas.{created-classes, created-shape, created-stored}
use Rattle.instructions.proofs.Throwables.{raises_is}
use Rattle.instructions.proofs.Throwables.{created_held, exception-thrown, overflow_raised, raise_full_reported}
use Rattle.instructions.proofs.Throwables.{raise_none_reported, raise_reported, stack_kind-thrown}
use Rattle.instructions.proofs.machines.Machine.raise.Goals as goal

pub throw-requires-clause-thrown : goal.throw-requires-clause-thrown
throw-requires-clause-thrown c =
    rw c.stack_error-kind.ensures.kind (stack_kind-thrown c.args.program.now c.args.self.now.heap.classes
    c.requires.ready.classes)

pub returns-then-eq-clause-step : goal.returns-then-eq-clause-step
returns-then-eq-clause-step c = λ scene here.
    let overflow : c.args.exception ≡ StackOverflow = search rules in
    rw overflow (overflow_raised c.args.program.now scene c.args.self.now here c.throw.new.self c.throw.result
    c.throw.ensures.step)

pub returns-then-not-has_room-clause-step : goal.returns-then-not-has_room-clause-step
returns-then-not-has_room-clause-step c = λ scene here.
    let other : c.args.exception ≢ StackOverflow = search rules in
    raise_none_reported c.args.program.now scene c.args.self.now here c.args.exception c.throw_memory_error.new.self
    c.throw_memory_error.result
    (search rules) other c.throw_memory_error.ensures.step

pub target-target-requires-clause-thrown : goal.target-target-requires-clause-thrown
target-target-requires-clause-thrown c = rw c.exception_kind-kind.ensures.kind
    (exception-thrown c.args.program.now c.args.exception)

pub returns-then-is_full-clause-step : goal.returns-then-is_full-clause-step
returns-then-is_full-clause-step c = λ scene here.
    let other : c.args.exception ≢ StackOverflow = search rules in
    let m = c.args.self.now in
    let some : has_room m.heap.account 0 ≡ true = search rules in
    rw (raises_is c.args.exception other)
    (raise_full_reported c.args.program.now scene m here c.args.exception c.exception_kind-kind.result
    c.target-target.result (take_cell m.heap.account 0) refl
    some c.has_room.ensures.there c.exception_kind-kind.ensures.kind c.target-target.ensures.way (search rules))

pub land-course-requires-clause-kind : goal.land-course-requires-clause-kind
land-course-requires-clause-kind c =
    let m = c.args.self.now in
    rw c.create.ensures.heap (created_held m.heap c.exception_kind-kind.result (take_cell m.heap.account 0)
    c.in-Some.reference c.has_room.ensures.there
    c.in-Some.ensures.reference)

pub returns-clause-step : goal.returns-clause-step
returns-clause-step c = λ scene here.
    let other : c.args.exception ≢ StackOverflow = search rules in
    let m = c.args.self.now in
    rw (raises_is c.args.exception other)
    (raise_reported c.args.program.now scene m here c.args.exception c.exception_kind-kind.result c.create.new.self
    c.land-course.new.self c.in-Some.reference
    c.land-course.result (take_cell m.heap.account 0) refl c.exception_kind-kind.ensures.kind c.create.ensures.heap
    c.in-Some.ensures.reference
    c.land-course.ensures.step)

pub returns-clause-keeps : goal.returns-clause-keeps
returns-clause-keeps c =
    let m = c.args.self.now in
    let kind = c.exception_kind-kind.result in
    let landed = c.land-course.ensures.keeps in
    record {
      thread = landed.thread;
      capacity = landed.capacity;
      slots = landed.slots;
      states = landed.states;
      shape = landed.shape ∙ rw c.create.ensures.heap (created-shape m.heap kind [] (take_cell m.heap.account 0));
      classes = landed.classes ∙ rw c.create.ensures.heap (created-classes m.heap kind [] (take_cell m.heap.account 0));
      stored = λ stored. landed.stored (rw c.create.ensures.heap
          (created-stored c.args.program.now m.heap kind [] (take_cell m.heap.account 0) stored
          c.exception_kind-kind.ensures.stored));
    }
