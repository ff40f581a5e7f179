use Rattle.std.proofs.Common.{◌≡◌, ◌∙◌, Err, None, Ok, Some, ap, false, refl, rules, sym, true}
use Rattle.model.specs.declared.turns.Fault.TheVariants.{NoMethod, WrongClass}
use Rattle.model.specs.Frames.{running_frame}
use Rattle.instructions.specs.declared.kinds.Course.TheVariants.{Live}
use Rattle.instructions.specs.Acting.{shown, site_at, turned}
use Rattle.instructions.specs.OwnCalls.{own_call}
use Rattle.instructions.specs.CallsByNumbers.{called_none, called_object, is_of, known_at, object_found}
use Rattle.instructions.specs.Heaps.{kind_held}
use Rattle.instructions.proofs.ActingLemmas.{fault_reported}
use Rattle.instructions.proofs.InvokeLemmas.{called-found, called-other, called-this}
use Rattle.instructions.proofs.machines.Machine.invoke_none.Goals as goal

pub returns-in-None-clause-step : goal.returns-in-None-clause-step
returns-in-None-clause-step c = λ scene here.
    let m = c.args.self.now in
    let program = c.args.program.now in
    let x = shown program scene m Live in
    let s = site_at program m x.world c.args.next in
    let known : known_at program c.args.place ≡ None = search rules in
    fault_reported program scene m m here NoMethod
    ∙ sym (ap (λ o. turned program x m.thread (called_none (own_call m.heap s) s m.heap c.args.class o)) known)

pub returns-in-Err-clause-step : goal.returns-in-Err-clause-step
returns-in-Err-clause-step c = λ scene here.
    let m = c.args.self.now in
    let program = c.args.program.now in
    let x = shown program scene m Live in
    let s = site_at program m x.world c.args.next in
    let method = c.in-Some.method.now in
    let known : known_at program c.args.place ≡ Some method = search rules in
    let found : object_found method.arguments (running_frame m.frames).stack ≡ Err c.in-Err.fault = search rules in
    fault_reported program scene m m here c.in-Err.fault
    ∙ ap (λ r. turned program x m.thread (called_object (own_call m.heap s) s m.heap c.args.class (λ kind. None) r))
    (sym found)
    ∙ sym (ap (turned program x m.thread) (called-found (own_call m.heap s) s m.heap c.args.class method.arguments
    (λ kind. None)))
    ∙ sym (ap (λ o. turned program x m.thread (called_none (own_call m.heap s) s m.heap c.args.class o)) known)

pub returns-in-Ok-None-clause-step : goal.returns-in-Ok-None-clause-step
returns-in-Ok-None-clause-step c = λ scene here.
    let m = c.args.self.now in
    let program = c.args.program.now in
    let x = shown program scene m Live in
    let s = site_at program m x.world c.args.next in
    let method = c.in-Some.method.now in
    let known : known_at program c.args.place ≡ Some method = search rules in
    let found : object_found method.arguments (running_frame m.frames).stack ≡ Ok None = search rules in
    c.raise.ensures.step scene here
    ∙ ap (λ r. turned program x m.thread (called_object (own_call m.heap s) s m.heap c.args.class (λ kind. None) r))
    (sym found)
    ∙ sym (ap (turned program x m.thread) (called-found (own_call m.heap s) s m.heap c.args.class method.arguments
    (λ kind. None)))
    ∙ sym (ap (λ o. turned program x m.thread (called_none (own_call m.heap s) s m.heap c.args.class o)) known)

pub returns-then-is_of-clause-step : goal.returns-then-is_of-clause-step
returns-then-is_of-clause-step c = λ scene here.
    let m = c.args.self.now in
    let program = c.args.program.now in
    let x = shown program scene m Live in
    let s = site_at program m x.world c.args.next in
    let method = c.in-Some.method.now in
    let known : known_at program c.args.place ≡ Some method = search rules in
    let object = c.in-Ok-Some.object in
    let is : is_of program (kind_held m.heap object) c.args.class ≡ true = search rules in
    let found : object_found method.arguments (running_frame m.frames).stack ≡ Ok (Some object) = search rules in
    fault_reported program scene m m here NoMethod ∙ sym (ap (turned program x m.thread)
    (called-this (own_call m.heap s) s c.args.class object (λ kind. None) (kind_held m.heap object) None is
    (λ kind. refl)))
    ∙ ap (λ r. turned program x m.thread (called_object (own_call m.heap s) s m.heap c.args.class (λ kind. None) r))
    (sym found)
    ∙ sym (ap (turned program x m.thread) (called-found (own_call m.heap s) s m.heap c.args.class method.arguments
    (λ kind. None)))
    ∙ sym (ap (λ o. turned program x m.thread (called_none (own_call m.heap s) s m.heap c.args.class o)) known)

pub returns-else-is_of-clause-step : goal.returns-else-is_of-clause-step
returns-else-is_of-clause-step c = λ scene here.
    let m = c.args.self.now in
    let program = c.args.program.now in
    let x = shown program scene m Live in
    let s = site_at program m x.world c.args.next in
    let method = c.in-Some.method.now in
    let known : known_at program c.args.place ≡ Some method = search rules in
    let object = c.in-Ok-Some.object in
    let is : is_of program (kind_held m.heap object) c.args.class ≡ false = search rules in
    let found : object_found method.arguments (running_frame m.frames).stack ≡ Ok (Some object) = search rules in
    fault_reported program scene m m here WrongClass ∙ sym (ap (turned program x m.thread)
    (called-other (own_call m.heap s) s c.args.class object (λ kind. None) (kind_held m.heap object) is))
    ∙ ap (λ r. turned program x m.thread (called_object (own_call m.heap s) s m.heap c.args.class (λ kind. None) r))
    (sym found)
    ∙ sym (ap (turned program x m.thread) (called-found (own_call m.heap s) s m.heap c.args.class method.arguments
    (λ kind. None)))
    ∙ sym (ap (λ o. turned program x m.thread (called_none (own_call m.heap s) s m.heap c.args.class o)) known)
