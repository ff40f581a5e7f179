use Rattle.std.proofs.Common.{ap, sym, Some, ◌∙◌}
use Rattle.instructions.specs.Heaps.{held}
use Rattle.instructions.specs.declared.kinds.Course.TheVariants.{Live}
use Rattle.instructions.specs.Acting.{shown, site_at, turned}
use Rattle.instructions.proofs.ActingLemmas.{fault_reported}
use Rattle.instructions.proofs.ArrayLemmas.{no_array_length, no_object_length}
use Rattle.instructions.proofs.machines.Machine.get_length.Goals as goal

pub returns-in-Some-Instance-clause-step : goal.returns-in-Some-Instance-clause-step
returns-in-Some-Instance-clause-step c = λ scene here.
    let m = c.args.self.now in
    let program = c.args.program.now in
    let x = shown program scene m Live in
    let s = site_at program m x.world c.args.next in
    fault_reported program scene m m here _
    ∙ ap (turned program x m.thread)
    (sym (no_array_length s (held m.heap c.args.reference) _ (sym (ap Some c.in-Some-Instance.field-0-is)
    ∙ c.in-Some-Instance.ensures)))

pub returns-in-None-clause-step : goal.returns-in-None-clause-step
returns-in-None-clause-step c = λ scene here.
    let m = c.args.self.now in
    let program = c.args.program.now in
    let x = shown program scene m Live in
    let s = site_at program m x.world c.args.next in
    fault_reported program scene m m here _
    ∙ ap (turned program x m.thread) (sym (no_object_length s (held m.heap c.args.reference) c.in-None.ensures))
