use Rattle.std.proofs.Common.{◌≡◌, ◌∙◌, Err, None, Ok, Some, ap, rules, sym}
use Rattle.model.specs.declared.turns.Fault.TheVariants.{NoInstruction}
use Rattle.std.specs.Prelude.{slice_get}
use Rattle.linking.specs.SelectorArguments.{selector_arguments}
use Rattle.linking.specs.Selectors.{selectors}
use Rattle.model.specs.Frames.{running_frame}
use Rattle.instructions.specs.declared.kinds.Course.TheVariants.{Live}
use Rattle.instructions.specs.Acting.{shown, site_at, turned}
use Rattle.instructions.specs.OwnCalls.{own_call}
use Rattle.instructions.specs.CallsByNumbers.{called_object, called_selected, object_found, selected_at}
use Rattle.instructions.proofs.ActingLemmas.{fault_reported}
use Rattle.instructions.proofs.AloneLemmas.{alone_begins, alone_reported}
use Rattle.instructions.proofs.InvokeLemmas.{called-found}
use Rattle.instructions.proofs.SelectedRows.{virtual-none, virtual-some}
use Rattle.instructions.proofs.machines.Machine.invoke_virtual.Goals as goal

pub returns-in-Err-clause-step : goal.returns-in-Err-clause-step
returns-in-Err-clause-step c = λ scene here lives.
    let m = c.args.self.now in
    let program = c.args.program.now in
    let x = shown program scene m Live in
    let s = site_at program m x.world c.args.next in
    let kinds = c.in-Some.kinds.now in
    let listed : slice_get (selector_arguments program) c.args.selector ≡ Some kinds = search rules in
    let found : object_found kinds (running_frame m.frames).stack ≡ Err c.in-Err.fault = search rules in
    fault_reported program scene m m here c.in-Err.fault
    ∙ ap (λ r. turned program x m.thread (called_object (own_call m.heap s) s m.heap c.args.class
    (selected_at program c.args.selector) r)) (sym found)
    ∙ sym (ap (turned program x m.thread) (called-found (own_call m.heap s) s m.heap c.args.class kinds
    (selected_at program c.args.selector)))
    ∙ sym (ap (turned program x m.thread) (virtual-some (own_call m.heap s) s m.heap c.args.class c.args.selector kinds
    listed))

pub returns-in-Ok-None-clause-step : goal.returns-in-Ok-None-clause-step
returns-in-Ok-None-clause-step c = λ scene here lives.
    let m = c.args.self.now in
    let program = c.args.program.now in
    let x = shown program scene m Live in
    let s = site_at program m x.world c.args.next in
    let kinds = c.in-Some.kinds.now in
    let listed : slice_get (selector_arguments program) c.args.selector ≡ Some kinds = search rules in
    let found : object_found kinds (running_frame m.frames).stack ≡ Ok None = search rules in
    rw c.alone.ensures (alone_reported x m.thread _ c.raise.result _ (c.raise.ensures.step scene here))
    ∙ ap (λ r. turned program x m.thread (called_object (own_call m.heap s) s m.heap c.args.class
    (selected_at program c.args.selector) r)) (sym found)
    ∙ sym (ap (turned program x m.thread) (called-found (own_call m.heap s) s m.heap c.args.class kinds
    (selected_at program c.args.selector)))
    ∙ sym (ap (turned program x m.thread) (virtual-some (own_call m.heap s) s m.heap c.args.class c.args.selector kinds
    listed))

pub returns-in-Ok-Some-clause-step : goal.returns-in-Ok-Some-clause-step
returns-in-Ok-Some-clause-step c = λ scene here lives.
    let m = c.args.self.now in
    let program = c.args.program.now in
    let x = shown program scene m Live in
    let s = site_at program m x.world c.args.next in
    let kinds = c.in-Some.kinds.now in
    let listed : slice_get (selector_arguments program) c.args.selector ≡ Some kinds = search rules in
    let found : object_found kinds (running_frame m.frames).stack ≡ Ok (Some c.in-Ok-Some.object) = search rules in
    c.call_selected.ensures.step scene here lives
    ∙ ap (λ r. turned program x m.thread (called_object (own_call m.heap s) s m.heap c.args.class
    (selected_at program c.args.selector) r)) (sym found)
    ∙ sym (ap (turned program x m.thread) (called-found (own_call m.heap s) s m.heap c.args.class kinds
    (selected_at program c.args.selector)))
    ∙ sym (ap (turned program x m.thread) (virtual-some (own_call m.heap s) s m.heap c.args.class c.args.selector kinds
    listed))

pub returns-in-None-clause-step : goal.returns-in-None-clause-step
returns-in-None-clause-step c = λ scene here lives.
    let m = c.args.self.now in
    let program = c.args.program.now in
    let x = shown program scene m Live in
    let s = site_at program m x.world c.args.next in
    let none : slice_get (selectors program) c.args.selector ≡ None = virtual-none program c.args.selector
    (search rules) in
    fault_reported program scene m m here NoInstruction
    ∙ sym (ap (λ o. turned program x m.thread (called_selected (own_call m.heap s) s m.heap c.args.class o)) none)

pub returns-in-Ok-None-clause-begins : goal.returns-in-Ok-None-clause-begins
returns-in-Ok-None-clause-begins c = rw c.alone.ensures (alone_begins c.args.courses.now c.raise.result)
