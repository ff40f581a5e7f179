use Rattle.std.proofs.Common.{ap, sym, ◌∙◌}
use Rattle.values.specs.Slots.{value_of}
use Rattle.instructions.specs.declared.kinds.Course.TheVariants.{Live}
use Rattle.instructions.specs.Acting.{shown, site_at, turned}
use Rattle.instructions.specs.ByNumbers.{static_got_if}
use Rattle.instructions.proofs.ActingLemmas.{fault_reported}
use Rattle.instructions.proofs.PushLemmas.{no_slot, slot_got}
use Rattle.instructions.proofs.machines.Machine.get_static.Goals as goal

pub returns-in-Some-clause-step : goal.returns-in-Some-clause-step
returns-in-Some-clause-step c = λ scene here.
    let m = c.args.self.now in
    let program = c.args.program.now in
    let there = rw c.in-Some.is at c.get.ensures in
    c.push.ensures.step scene here
    ∙ sym (ap (turned program (shown program scene m Live) m.thread)
    (slot_got program scene m c.requires.ready.fit c.args.next c.args.slot (value_of c.in-Some.held) (sym there)))

pub returns-in-None-clause-step : goal.returns-in-None-clause-step
returns-in-None-clause-step c = λ scene here.
    let m = c.args.self.now in
    let program = c.args.program.now in
    let x = shown program scene m Live in
    let none = rw c.in-None.is at c.get.ensures in
    fault_reported program scene m m here _
    ∙ sym (ap (λ o. turned program x m.thread (static_got_if (site_at program m x.world c.args.next) c.args.slot o))
    (no_slot program scene m c.requires.ready.fit c.args.next c.args.slot (sym none)))
