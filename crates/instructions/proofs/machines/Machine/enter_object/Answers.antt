use Rattle.std.proofs.Common.{◌≡◌, true, false, refl, rules, arith, ap, sym, ◌∙◌}
use Rattle.model.specs.Completions.Completion.{Faults}
use Rattle.model.specs.Monitors.{entered, is_full, may_enter}
use Rattle.instructions.specs.declared.kinds.Course.TheVariants.{Live}
use Rattle.instructions.specs.Acting.{shown, turned}
use Rattle.instructions.specs.HeapMonitors.{monitor_held, monitored}
use Rattle.instructions.proofs.ActingLemmas.{fault_reported}
use Rattle.instructions.proofs.InitialisingLemmas.{waits_reported}
use Rattle.instructions.proofs.MonitoringLemmas.{monitored-alone}
use Rattle.instructions.proofs.MonitorMoves.{entered-by, enters-there, full-there, monitor_reported, refused-by}
use Rattle.instructions.proofs.MonitorMoves.{waits-there}
use Rattle.instructions.proofs.machines.Machine.enter_object.Goals as goal

pub returns-then-not-may_enter-clause-step : goal.returns-then-not-may_enter-clause-step
returns-then-not-may_enter-clause-step c = λ scene here.
    let m = c.args.self.now in
    let program = c.args.program.now in
    let may : may_enter m.thread (monitor_held m.heap c.args.reference).owner ≡ false = search rules in
    rw c.to.ensures
    (waits_reported program scene m
    ∙ sym (ap (turned program (shown program scene m Live) m.thread) (waits-there program scene m here c.args.next
    c.args.reference may)))

pub returns-in-Ok-clause-step : goal.returns-in-Ok-clause-step
returns-in-Ok-clause-step c = λ scene here.
    let m = c.args.self.now in
    let program = c.args.program.now in
    let r = c.args.reference in
    let may : may_enter m.thread (monitor_held m.heap r).owner ≡ true = search rules in
    let by = entered-by (is_full c.monitor-monitor.result) (entered c.from-thread.result c.monitor-monitor.result)
    c.in-Ok.entered c.in-Ok.ensures in
    let room : is_full (monitor_held m.heap r) ≡ false = sym (ap is_full c.monitor-monitor.ensures) ∙ by.0 in
    let is : c.in-Ok.entered ≡ entered m.thread (monitor_held m.heap r) = by.1 ∙ rw (
      c.from-thread.ensures,
      c.monitor-monitor.ensures,
    ) refl in
    rw c.to-in-Ok.ensures
    (monitor_reported program scene m here c.args.next r c.discard.new.self c.set_monitor.new.self
    (entered m.thread (monitor_held m.heap r))
    c.requires.object c.discard.ensures (c.set_monitor.ensures ∙ ap (monitored m.heap r) is)
    ∙ sym (ap (turned program (shown program scene m Live) m.thread) (enters-there program scene m here c.args.next r
    may room)))

pub returns-in-Ok-clause-keeps : goal.returns-in-Ok-clause-keeps
returns-in-Ok-clause-keeps c =
    let alone = monitored-alone c.args.program.now c.args.self.now.heap c.args.reference c.in-Ok.entered in
    record {
      thread = refl;
      capacity = omega arith;
      slots = refl;
      states = refl;
      shape = rw c.set_monitor.ensures alone.shape;
      classes = rw c.set_monitor.ensures alone.classes;
      stored = λ stored. rw c.set_monitor.ensures (alone.stored stored);
    }

pub returns-in-Err-clause-step : goal.returns-in-Err-clause-step
returns-in-Err-clause-step c = λ scene here.
    let m = c.args.self.now in
    let program = c.args.program.now in
    let r = c.args.reference in
    let may : may_enter m.thread (monitor_held m.heap r).owner ≡ true = search rules in
    let by = refused-by (is_full c.monitor-monitor.result) (entered c.from-thread.result c.monitor-monitor.result)
    c.in-Err.fault c.in-Err.ensures in
    let full : is_full (monitor_held m.heap r) ≡ true = sym (ap is_full c.monitor-monitor.ensures) ∙ by.0 in
    fault_reported program scene m m here c.in-Err.fault
    ∙ ap (λ fault. turned program (shown program scene m Live) m.thread (Faults fault)) by.1
    ∙ sym (ap (turned program (shown program scene m Live) m.thread) (full-there program scene m here c.args.next r may
    full))
