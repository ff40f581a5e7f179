use Rattle.std.proofs.Common.{◌≡◌, Ok, false, ap, rules, sym, ◌∙◌}
use Rattle.model.specs.declared.instructions.MonitorOperation.TheVariants.{Enter}
use Rattle.model.specs.declared.turns.Fault.TheVariants.{WrongClass}
use Rattle.model.specs.Table.Monitors.{operates_if}
use Rattle.instructions.specs.declared.kinds.Course.TheVariants.{Live}
use Rattle.instructions.specs.Acting.{shown, site_at, turned}
use Rattle.instructions.specs.Heaps.{kind_held}
use Rattle.instructions.specs.MonitorsByNumbers.{is_object, operates_by}
use Rattle.instructions.proofs.ActingLemmas.{fault_reported}
use Rattle.instructions.proofs.machines.Machine.enter_monitor.Goals as goal

pub returns-else-is_object-clause-step : goal.returns-else-is_object-clause-step
returns-else-is_object-clause-step c = λ scene here.
    let m = c.args.self.now in
    let program = c.args.program.now in
    let x = shown program scene m Live in
    let s = site_at program m x.world c.args.next in
    let r = c.in-Ok-Some.reference in
    let none : is_object program (kind_held m.heap r) ≡ false = search rules in
    fault_reported program scene m m here WrongClass
    ∙ sym (ap (λ b. turned program x m.thread (operates_if s Enter r b)) none)
    ∙ ap (λ o. turned program x m.thread (operates_by s m.heap Enter o)) (sym (ap Ok c.in-Ok-Some.field-0-is)
    ∙ c.in-Ok-Some.ensures.value)

pub returns-in-Err-clause-step : goal.returns-in-Err-clause-step
returns-in-Err-clause-step c = λ scene here.
    let m = c.args.self.now in
    let program = c.args.program.now in
    let x = shown program scene m Live in
    let s = site_at program m x.world c.args.next in
    fault_reported program scene m m here c.in-Err.fault
    ∙ ap (λ o. turned program x m.thread (operates_by s m.heap Enter o)) c.in-Err.ensures.value
