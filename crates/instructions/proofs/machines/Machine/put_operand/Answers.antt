use Rattle.std.proofs.Common.{drop, Ok, None, Some, ap, sym, ◌∙◌}
use Rattle.model.specs.Frames.{ref_on, running_frame}
use Rattle.linking.specs.Storages.{shown_storage}
use Rattle.instructions.specs.declared.kinds.Course.TheVariants.{Live}
use Rattle.instructions.specs.Acting.{shown, site_at, turned}
use Rattle.instructions.specs.ByNumbers.{field_put_at}
use Rattle.instructions.proofs.ActingLemmas.{fault_reported}
use Rattle.instructions.proofs.FieldLemmas.{operand_fails, operands_are, reference_fails}
use Rattle.instructions.proofs.machines.Machine.put_operand.Goals as goal

pub returns-in-Ok-Some-clause-step : goal.returns-in-Ok-Some-clause-step
returns-in-Ok-Some-clause-step c = λ scene here.
    let m = c.args.self.now in
    let program = c.args.program.now in
    let field = c.args.field in
    let x = shown program scene m Live in
    let f = running_frame m.frames in
    let s = site_at program m x.world c.args.next in
    let storage = shown_storage c.args.storage in
    c.put_word.ensures.step scene here
    ∙ ap (λ r. turned program x m.thread (field_put_at s m.heap field.class field.word field.declarer storage r))
    (operands_are _ _ c.in-Ok.value (Some c.in-Ok-Some.reference) (rw c.kind.ensures at c.in-Ok.ensures.value)
    (sym (ap Ok c.in-Ok-Some.field-0-is) ∙ c.in-Ok-Some.ensures))

pub returns-in-Ok-None-clause-step : goal.returns-in-Ok-None-clause-step
returns-in-Ok-None-clause-step c = λ scene here.
    let m = c.args.self.now in
    let program = c.args.program.now in
    let field = c.args.field in
    let x = shown program scene m Live in
    let f = running_frame m.frames in
    let s = site_at program m x.world c.args.next in
    let storage = shown_storage c.args.storage in
    c.raise.ensures.step scene here
    ∙ ap (λ r. turned program x m.thread (field_put_at s m.heap field.class field.word field.declarer storage r))
    (operands_are _ _ c.in-Ok.value None (rw c.kind.ensures at c.in-Ok.ensures.value)
    (sym (ap Ok c.in-Ok-None.field-0-is) ∙ c.in-Ok-None.ensures))

pub returns-in-Err-reference_below-clause-step : goal.returns-in-Err-reference_below-clause-step
returns-in-Err-reference_below-clause-step c = λ scene here.
    let m = c.args.self.now in
    let program = c.args.program.now in
    let field = c.args.field in
    let x = shown program scene m Live in
    let f = running_frame m.frames in
    let s = site_at program m x.world c.args.next in
    let storage = shown_storage c.args.storage in
    fault_reported program scene m m here _
    ∙ ap (λ r. turned program x m.thread (field_put_at s m.heap field.class field.word field.declarer storage r))
    (reference_fails _ _ c.in-Ok.value _ (rw c.kind.ensures at c.in-Ok.ensures.value) c.in-Err-reference_below.ensures)

pub returns-in-Err-clause-step : goal.returns-in-Err-clause-step
returns-in-Err-clause-step c = λ scene here.
    let m = c.args.self.now in
    let program = c.args.program.now in
    let field = c.args.field in
    let x = shown program scene m Live in
    let f = running_frame m.frames in
    let s = site_at program m x.world c.args.next in
    let storage = shown_storage c.args.storage in
    fault_reported program scene m m here _
    ∙ ap (λ r. turned program x m.thread (field_put_at s m.heap field.class field.word field.declarer storage r))
    (operand_fails _ (ref_on (drop 1 f.stack)) _ (rw c.kind.ensures at c.in-Err.ensures.value))
