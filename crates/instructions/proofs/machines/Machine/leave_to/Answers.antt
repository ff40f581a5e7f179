use Rattle.std.proofs.Common.{◌≡◌, ◌∷◌, [], Some, None, true, false, refl, ap, sym, ◌∙◌, rules}
use Rattle.model.specs.Frames.{callers, running_frame}
use Rattle.model.specs.Initialisation.{runs_initializer}
use Rattle.frames.specs.declared.heads.FrameHead.{FrameHead}
use Rattle.model.specs.declared.turns.ClassState.TheVariants.{Done}
use Rattle.instructions.specs.declared.kinds.Course.TheVariants.{Live}
use Rattle.instructions.specs.declared.machines.Machine.{Machine}
use Rattle.instructions.specs.Acting.{shown, site_at, turned}
use Rattle.instructions.specs.ReturnsByNumbers.{next_at}
use Rattle.instructions.proofs.ActingLemmas.{fault_reported}
use Rattle.instructions.proofs.ReturnLemmas.{goes_nowhere, goes_on, left-keeps, wakes_left}
use Rattle.instructions.proofs.Scenes.{frames_shown}
use Rattle.instructions.proofs.machines.Machine.leave_to.Goals as goal

pub returns-then-is_initializer-clause-step : goal.returns-then-is_initializer-clause-step
returns-then-is_initializer-clause-step c = λ n scene here.
    let m = c.args.self.now in
    let left = c.leave_frame.new.self in
    let runs : runs_initializer c.args.program.now (running_frame m.frames) ≡ true = search rules in
    let after : Machine = record {
      thread = left.thread;
      frames = c.set_mark.new.self;
      slots = left.slots;
      states = left.states;
      heap = left.heap;
      output = left.output;
    } in
    rw c.to.ensures
    (wakes_left c.args.program.now scene m left after here c.leave_frame.ensures.left refl refl refl n c.args.value
    c.requires.caller.some runs c.leave_frame.ensures.frames c.set_mark.ensures refl)

pub returns-then-is_initializer-clause-keeps : goal.returns-then-is_initializer-clause-keeps
returns-then-is_initializer-clause-keeps c =
    let m = c.args.self.now in
    let left = c.leave_frame.new.self in
    let after : Machine = record {
      thread = left.thread;
      frames = c.set_mark.new.self;
      slots = left.slots;
      states = left.states;
      heap = left.heap;
      output = left.output;
    } in
    left-keeps c.args.program.now Done (running_frame m.frames ∷ []) m left after None c.leave_frame.ensures.left refl
    refl refl refl refl

pub returns-in-Some-clause-step : goal.returns-in-Some-clause-step
returns-in-Some-clause-step c = λ n scene here.
    let m = c.args.self.now in
    let program = c.args.program.now in
    let x = shown program scene m Live in
    let s = site_at program m x.world n in
    let runs : runs_initializer program (running_frame m.frames) ≡ false = search rules in
    let next : Some c.in-Some.next ≡ next_at program (running_frame (callers m.frames)).method
    (running_frame (callers m.frames)).pc =
    c.in-Some.ensures ∙ ap (λ (head : FrameHead). next_at program head.method head.pc) c.requires.caller.is in
    c.go_on.ensures.step n scene here
    ∙ sym (ap (turned program x m.thread)
    (goes_on s m.frames (frames_shown program scene m here) c.args.value c.requires.caller.some runs c.in-Some.next
    next))

pub returns-in-None-clause-step : goal.returns-in-None-clause-step
returns-in-None-clause-step c = λ n scene here.
    let m = c.args.self.now in
    let program = c.args.program.now in
    let x = shown program scene m Live in
    let s = site_at program m x.world n in
    let runs : runs_initializer program (running_frame m.frames) ≡ false = search rules in
    let next : None ≡ next_at program (running_frame (callers m.frames)).method (running_frame (callers m.frames)).pc =
    c.in-None.ensures ∙ ap (λ (head : FrameHead). next_at program head.method head.pc) c.requires.caller.is in
    fault_reported program scene m m here _
    ∙ sym (ap (turned program x m.thread)
    (goes_nowhere s m.frames (frames_shown program scene m here) c.args.value c.requires.caller.some runs next))
