use Rattle.std.proofs.Common.{◌≡◌, ◌∙◌, ap, false, rules, sym, true}
use Rattle.std.specs.Option.{option_map_or}
use Rattle.model.specs.Frames.{has_room_for}
use Rattle.model.specs.Monitors.{is_full, may_enter}
use Rattle.model.specs.Worlds.{free_monitor}
use Rattle.instructions.specs.declared.kinds.Course.TheVariants.{Live}
use Rattle.instructions.specs.Acting.{shown, turned}
use Rattle.instructions.specs.HeapMonitors.{monitor_held}
use Rattle.instructions.proofs.ActingLemmas.{fault_reported}
use Rattle.instructions.proofs.EnterLemmas.{entered-there, full-there, no-room-there, waits-there, waits_reported}
use Rattle.model.specs.declared.turns.Fault.TheVariants.{MonitorLimit}
use Rattle.instructions.proofs.machines.Machine.enter.Goals as goal

pub returns-then-not-may_enter-clause-step : goal.returns-then-not-may_enter-clause-step
returns-then-not-may_enter-clause-step c = λ scene here.
    let m = c.args.self.now in
    let program = c.args.program.now in
    let called = c.args.called in
    let may : may_enter m.thread (option_map_or (monitor_held m.heap) called.monitor free_monitor).owner
    ≡ false = search rules in
    rw c.to.ensures
    (waits_reported program scene m here c.args.next called.place called.max_locals called.max_stack called.count
    called.monitor
    ∙ sym (ap (turned program (shown program scene m Live) m.thread)
    (waits-there program scene m here c.args.next called.place called.max_locals called.max_stack called.count
    called.monitor may)))

pub returns-then-not-has_room_for-clause-step : goal.returns-then-not-has_room_for-clause-step
returns-then-not-has_room_for-clause-step c = λ scene here.
    let m = c.args.self.now in
    let program = c.args.program.now in
    let called = c.args.called in
    let may : may_enter m.thread (option_map_or (monitor_held m.heap) called.monitor free_monitor).owner
    ≡ true = search rules in
    let room : has_room_for m.frames called.max_locals called.max_stack ≡ false = search rules in
    c.raise.ensures.step scene here
    ∙ sym (ap (turned program (shown program scene m Live) m.thread)
    (no-room-there program scene m here c.args.next called.place called.max_locals called.max_stack called.count
    called.monitor may room))

pub returns-then-is_full-clause-step : goal.returns-then-is_full-clause-step
returns-then-is_full-clause-step c = λ scene here.
    let m = c.args.self.now in
    let program = c.args.program.now in
    let called = c.args.called in
    let may : may_enter m.thread (option_map_or (monitor_held m.heap) called.monitor free_monitor).owner
    ≡ true = search rules in
    let room : has_room_for m.frames called.max_locals called.max_stack ≡ true = search rules in
    let full : is_full (option_map_or (monitor_held m.heap) called.monitor free_monitor) ≡ true = search rules in
    fault_reported program scene m m here MonitorLimit
    ∙ sym (ap (turned program (shown program scene m Live) m.thread)
    (full-there program scene m here c.args.next called.place called.max_locals called.max_stack called.count
    called.monitor may room full))

pub returns-clause-step : goal.returns-clause-step
returns-clause-step c = λ scene here.
    let m = c.args.self.now in
    let program = c.args.program.now in
    let called = c.args.called in
    let may : may_enter m.thread (option_map_or (monitor_held m.heap) called.monitor free_monitor).owner
    ≡ true = search rules in
    let room : has_room_for m.frames called.max_locals called.max_stack ≡ true = search rules in
    let full : is_full (option_map_or (monitor_held m.heap) called.monitor free_monitor) ≡ false = search rules in
    c.enter_frame.ensures.step scene here
    ∙ sym (ap (turned program (shown program scene m Live) m.thread)
    (entered-there program scene m here c.args.next called.place called.max_locals called.max_stack called.count
    called.monitor may room full))
