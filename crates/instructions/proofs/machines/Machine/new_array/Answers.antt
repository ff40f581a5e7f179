use Rattle.std.proofs.Common.{◌≡◌, ap, true, rules, ◌∙◌}
use Rattle.model.specs.Table.Arrays.{array_made}
use Rattle.instructions.specs.declared.kinds.Course.TheVariants.{Live}
use Rattle.instructions.specs.Acting.{shown, site_at, turned}
use Rattle.instructions.specs.Shown.{type_name}
use Rattle.instructions.specs.TypeNumbers.{is_element}
use Rattle.instructions.specs.TypesByNumbers.{array_made_if}
use Rattle.instructions.proofs.ActingLemmas.{fault_reported}
use Rattle.instructions.proofs.ArrayLemmas.{sized_some}
use Rattle.instructions.proofs.machines.Machine.new_array.Goals as goal

pub returns-then-not-is_element-clause-step : goal.returns-then-not-is_element-clause-step
returns-then-not-is_element-clause-step c = λ scene here.
    let m = c.args.self.now in
    let program = c.args.program.now in
    let x = shown program scene m Live in
    let s = site_at program m x.world c.args.next in
    fault_reported program scene m m here _
    ∙ ap (λ b. turned program x m.thread (array_made_if s c.args.elements b)) c.if-not-is_element.ensures

pub returns-else-count-lt0-clause-step : goal.returns-else-count-lt0-clause-step
returns-else-count-lt0-clause-step c = λ scene here.
    let m = c.args.self.now in
    let program = c.args.program.now in
    let x = shown program scene m Live in
    let s = site_at program m x.world c.args.next in
    let there : true ≡ is_element program c.args.elements.element = c.if-not-is_element.ensures in
    c.create_array.ensures.step scene here
    ∙ ap (turned program x m.thread) (sized_some s c.args.elements c.in-Ok.count _ (search rules))
    ∙ ap (λ r. turned program x m.thread (array_made s (type_name program c.args.elements) r)) c.in-Ok.ensures.value
    ∙ ap (λ b. turned program x m.thread (array_made_if s c.args.elements b)) there

pub returns-in-Err-clause-step : goal.returns-in-Err-clause-step
returns-in-Err-clause-step c = λ scene here.
    let m = c.args.self.now in
    let program = c.args.program.now in
    let x = shown program scene m Live in
    let s = site_at program m x.world c.args.next in
    let there : true ≡ is_element program c.args.elements.element = c.if-not-is_element.ensures in
    fault_reported program scene m m here _
    ∙ ap (λ r. turned program x m.thread (array_made s (type_name program c.args.elements) r)) c.in-Err.ensures.value
    ∙ ap (λ b. turned program x m.thread (array_made_if s c.args.elements b)) there
