use Rattle.std.proofs.Common.{◌≡◌, true, false, refl, rules, arith, ap, sym, ◌∙◌}
use Rattle.model.specs.Monitors.{exited, is_owner}
use Rattle.instructions.specs.declared.kinds.Course.TheVariants.{Live}
use Rattle.instructions.specs.Acting.{shown, turned}
use Rattle.instructions.specs.HeapMonitors.{monitor_held, monitored}
use Rattle.instructions.proofs.MonitoringLemmas.{monitored-alone}
use Rattle.instructions.proofs.MonitorMoves.{exits-there, monitor_reported, others-there}
use Rattle.instructions.proofs.machines.Machine.exit_object.Goals as goal

pub returns-then-not-owns-clause-step : goal.returns-then-not-owns-clause-step
returns-then-not-owns-clause-step c = λ scene here.
    let m = c.args.self.now in
    let program = c.args.program.now in
    let owns : is_owner m.thread (monitor_held m.heap c.args.reference).owner ≡ false = search rules in
    c.raise.ensures.step scene here
    ∙ sym (ap (turned program (shown program scene m Live) m.thread) (others-there program scene m here c.args.next
    c.args.reference owns))

pub returns-clause-step : goal.returns-clause-step
returns-clause-step c = λ scene here.
    let m = c.args.self.now in
    let program = c.args.program.now in
    let r = c.args.reference in
    let owns : is_owner m.thread (monitor_held m.heap r).owner ≡ true = search rules in
    let is : c.exit.result ≡ exited (monitor_held m.heap r) = c.exit.ensures ∙ ap exited c.monitor-monitor.ensures in
    rw c.to.ensures
    (monitor_reported program scene m here c.args.next r c.discard.new.self c.set_monitor.new.self
    (exited (monitor_held m.heap r))
    c.requires.object c.discard.ensures (c.set_monitor.ensures ∙ ap (monitored m.heap r) is)
    ∙ sym (ap (turned program (shown program scene m Live) m.thread) (exits-there program scene m here c.args.next r
    owns)))

pub returns-clause-keeps : goal.returns-clause-keeps
returns-clause-keeps c =
    let alone = monitored-alone c.args.program.now c.args.self.now.heap c.args.reference c.exit.result in
    record {
      thread = refl;
      capacity = omega arith;
      slots = refl;
      states = refl;
      shape = rw c.set_monitor.ensures alone.shape;
      classes = rw c.set_monitor.ensures alone.classes;
      stored = λ stored. rw c.set_monitor.ensures (alone.stored stored);
    }
