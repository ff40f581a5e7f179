use Rattle.std.proofs.Common.{◌≡◌, ◌∙◌, ap, arith, refl}
use Rattle.model.specs.Locals.{arguments_on}
use Rattle.model.specs.Frames.{running_frame}
use Rattle.model.specs.Table.Invokes.{guarded}
use Rattle.model.specs.Values.{births_of}
use Rattle.instructions.specs.CallsByNumbers.{entered_in}
use Rattle.instructions.specs.Heaps.{shaded}
use Rattle.instructions.proofs.EnterLemmas.{entered-classes, entered-shape, entered-stored, enters_reported}
use Rattle.instructions.proofs.EnterLemmas.{heap_entered}
use Rattle.instructions.proofs.machines.Machine.enter_frame.Goals as goal

pub returns-clause-step : goal.returns-clause-step
returns-clause-step c = λ scene here.
    let m = c.args.self.now in
    let called = c.args.called in
    rw c.to.ensures (enters_reported c.args.program.now scene m here c.args.next called.place called.max_locals
    called.max_stack called.count called.monitor
    c.set_monitor.new.self c.shade.new.self c.requires.object (c.set_monitor.ensures
    ∙ ap (guarded called.monitor) c.call.ensures)
    (c.shade.ensures ∙ ap (λ h. shaded h called.monitor) (c.enter.ensures
    ∙ ap (λ h. entered_in h m.thread called.monitor) c.shade_operands.ensures)))

pub returns-clause-keeps : goal.returns-clause-keeps
returns-clause-keeps c =
    let m = c.args.self.now in
    let called = c.args.called in
    let births = births_of (arguments_on called.count (running_frame m.frames).stack) in
    let heap : c.shade.new.self ≡ heap_entered m.heap m.thread births called.monitor =
    c.shade.ensures ∙ ap (λ h. shaded h called.monitor) (c.enter.ensures
    ∙ ap (λ h. entered_in h m.thread called.monitor) c.shade_operands.ensures) in
    record {
      thread = refl;
      capacity = omega arith;
      slots = refl;
      states = refl;
      shape = rw heap (entered-shape m.heap m.thread births called.monitor);
      classes = rw heap (entered-classes m.heap m.thread births called.monitor);
      stored = λ stored. rw heap (entered-stored m.heap m.thread births c.args.program.now called.monitor stored);
    }
