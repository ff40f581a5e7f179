use Rattle.std.proofs.Common.{◌≡◌, ◌∙◌, Err, None, Ok, Some, ap, rules, sym}
use Rattle.model.specs.declared.turns.Fault.TheVariants.{NoMethod, WrongClass}
use Rattle.instructions.specs.declared.kinds.Course.TheVariants.{Live}
use Rattle.instructions.specs.Acting.{shown, site_at, turned}
use Rattle.instructions.specs.OwnCalls.{own_call}
use Rattle.instructions.specs.CallsByNumbers.{selected_at}
use Rattle.instructions.specs.Heaps.{kind_held}
use Rattle.linking.proofs.RunLemmas.{none_hides}
use Rattle.instructions.proofs.AcceptedClasses.{unrefused}
use Rattle.instructions.proofs.ActingLemmas.{fault_reported}
use Rattle.instructions.proofs.InvokeLemmas.{by_place, called-by, called-none}
use Rattle.instructions.proofs.SelectedRows.{selected-operands}
use Rattle.instructions.proofs.machines.Machine.call_selected.Goals as goal

pub run_on-requires-clause-operands : goal.run_on-requires-clause-operands
run_on-requires-clause-operands c = λ facts known.
    let program = c.args.program.now in
    selected-operands program (unrefused program c.requires.ready.accepted)
    (none_hides program c.requires.ready.accepted)
    c.args.selector c.in-Some.kind c.args.class c.in-Ok-Some.place facts _ c.args.object
    (sym c.select.ensures ∙ c.in-Ok-Some.is ∙ ap Ok c.in-Ok-Some.field-0-is) known c.requires.operands

pub returns-in-None-clause-step : goal.returns-in-None-clause-step
returns-in-None-clause-step c = λ scene here lives.
    let m = c.args.self.now in
    let program = c.args.program.now in
    let x = shown program scene m Live in
    let s = site_at program m x.world c.args.next in
    let none : kind_held m.heap c.args.object ≡ None = search rules in
    fault_reported program scene m m here WrongClass
    ∙ sym (ap (turned program x m.thread)
    (called-none (own_call m.heap s) s c.args.class c.args.object (selected_at program c.args.selector)
    (kind_held m.heap c.args.object) none))

pub returns-in-Ok-Some-clause-step : goal.returns-in-Ok-Some-clause-step
returns-in-Ok-Some-clause-step c = λ scene here lives.
    let m = c.args.self.now in
    let program = c.args.program.now in
    let x = shown program scene m Live in
    let s = site_at program m x.world c.args.next in
    let method = selected_at program c.args.selector in
    let kind : kind_held m.heap c.args.object ≡ Some c.in-Some.kind = search rules in
    let placed : c.select.result ≡ Ok (Some c.in-Ok-Some.place) = search rules in
    c.run_on.ensures.step scene here lives
    ∙ sym (ap (turned program x m.thread)
    (called-by (own_call m.heap s) s c.args.class c.args.object method c.in-Some.kind (kind_held m.heap c.args.object)
    c.select.result kind c.select.ensures
    ∙ ap (by_place (own_call m.heap s) s c.args.class c.args.object method) placed))

pub returns-in-Ok-None-clause-step : goal.returns-in-Ok-None-clause-step
returns-in-Ok-None-clause-step c = λ scene here lives.
    let m = c.args.self.now in
    let program = c.args.program.now in
    let x = shown program scene m Live in
    let s = site_at program m x.world c.args.next in
    let method = selected_at program c.args.selector in
    let kind : kind_held m.heap c.args.object ≡ Some c.in-Some.kind = search rules in
    let placed : c.select.result ≡ Ok None = search rules in
    fault_reported program scene m m here NoMethod
    ∙ sym (ap (turned program x m.thread)
    (called-by (own_call m.heap s) s c.args.class c.args.object method c.in-Some.kind (kind_held m.heap c.args.object)
    c.select.result kind c.select.ensures
    ∙ ap (by_place (own_call m.heap s) s c.args.class c.args.object method) placed))

pub returns-in-Err-clause-step : goal.returns-in-Err-clause-step
returns-in-Err-clause-step c = λ scene here lives.
    let m = c.args.self.now in
    let program = c.args.program.now in
    let x = shown program scene m Live in
    let s = site_at program m x.world c.args.next in
    let method = selected_at program c.args.selector in
    let kind : kind_held m.heap c.args.object ≡ Some c.in-Some.kind = search rules in
    let placed : c.select.result ≡ Err c.in-Err.fault = search rules in
    fault_reported program scene m m here c.in-Err.fault
    ∙ sym (ap (turned program x m.thread)
    (called-by (own_call m.heap s) s c.args.class c.args.object method c.in-Some.kind (kind_held m.heap c.args.object)
    c.select.result kind c.select.ensures
    ∙ ap (by_place (own_call m.heap s) s c.args.class c.args.object method) placed))
