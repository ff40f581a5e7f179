use Rattle.std.proofs.Common.{◌∷◌, [], None, refl}
use Rattle.model.specs.Frames.{running_frame}
use Rattle.model.specs.declared.turns.ClassState.TheVariants.{Done}
use Rattle.instructions.specs.declared.machines.Machine.{Machine}
use Rattle.instructions.proofs.ReturnLemmas.{gives_none, left-keeps}
use Rattle.instructions.proofs.machines.Machine.go_on.Goals as goal

pub returns-in-Some-clause-step : goal.returns-in-Some-clause-step
returns-in-Some-clause-step c = λ n scene here. rw c.in-Some.is (c.go_on_with.ensures.step n scene here)

pub returns-in-None-clause-step : goal.returns-in-None-clause-step
returns-in-None-clause-step c = λ n scene here.
    let m = c.args.self.now in
    let left = c.leave_frame.new.self in
    let after : Machine = record {
      thread = left.thread;
      frames = c.go_to.new.self;
      slots = left.slots;
      states = left.states;
      heap = left.heap;
      output = left.output;
    } in
    rw (c.to.ensures, c.in-None.is)
    (gives_none c.args.program.now scene m left after here c.leave_frame.ensures.left refl refl refl n c.args.next
    c.leave_frame.ensures.frames c.go_to.ensures refl)

pub returns-in-None-clause-keeps : goal.returns-in-None-clause-keeps
returns-in-None-clause-keeps c =
    let m = c.args.self.now in
    let left = c.leave_frame.new.self in
    let after : Machine = record {
      thread = left.thread;
      frames = c.go_to.new.self;
      slots = left.slots;
      states = left.states;
      heap = left.heap;
      output = left.output;
    } in
    left-keeps c.args.program.now Done (running_frame m.frames ∷ []) m left after None c.leave_frame.ensures.left refl
    refl refl refl refl
