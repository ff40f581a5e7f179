use Rattle.std.proofs.Common.{◌≡◌, slice_get, Some, None, ap, sym, ◌∙◌}
use Rattle.linking.specs.StaticSlots.{static_slots}
use Rattle.instructions.specs.declared.kinds.Course.TheVariants.{Live}
use Rattle.instructions.specs.Acting.{shown, site_at, turned}
use Rattle.instructions.specs.ByNumbers.{static_put_if}
use Rattle.instructions.proofs.ActingLemmas.{fault_reported}
use Rattle.instructions.proofs.machines.Machine.put_static.Goals as goal

pub returns-in-Some-clause-step : goal.returns-in-Some-clause-step
returns-in-Some-clause-step c = λ scene here.
    let m = c.args.self.now in
    let program = c.args.program.now in
    let x = shown program scene m Live in
    let there : slice_get (static_slots program) c.args.slot
    ≡ Some c.in-Some.declared = rw (← c.tables.ensures.slots_are, ← c.slots.ensures) (sym c.in-Some.ensures) in
    c.put_slot.ensures.step scene here
    ∙ sym (ap (λ o. turned program x m.thread (static_put_if (site_at program m x.world c.args.next) c.args.slot o))
    there)

pub returns-in-None-clause-step : goal.returns-in-None-clause-step
returns-in-None-clause-step c = λ scene here.
    let m = c.args.self.now in
    let program = c.args.program.now in
    let x = shown program scene m Live in
    let there : slice_get (static_slots program) c.args.slot ≡ None = rw (
      ← c.tables.ensures.slots_are,
      ← c.slots.ensures,
    ) (sym c.in-None.ensures) in
    fault_reported program scene m m here _
    ∙ sym (ap (λ o. turned program x m.thread (static_put_if (site_at program m x.world c.args.next) c.args.slot o))
    there)
