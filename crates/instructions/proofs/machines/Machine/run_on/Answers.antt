use Rattle.std.proofs.Common.{◌≡◌, ◌∙◌, None, Some, ap, false, rules, sym, true}
use Rattle.model.specs.declared.turns.Fault.TheVariants.{NoMethod}
use Rattle.instructions.specs.declared.kinds.Course.TheVariants.{Live}
use Rattle.instructions.specs.Acting.{shown, site_at, turned}
use Rattle.instructions.specs.OwnCalls.{own_call}
use Rattle.instructions.specs.CallsByNumbers.{called_known, is_static, known_at}
use Rattle.instructions.proofs.ActingLemmas.{fault_reported}
use Rattle.instructions.proofs.InvokeLemmas.{instance-known, static-known}
use Rattle.instructions.proofs.machines.Machine.run_on.Goals as goal

pub returns-in-None-clause-step : goal.returns-in-None-clause-step
returns-in-None-clause-step c = λ scene here lives.
    let m = c.args.self.now in
    let program = c.args.program.now in
    let x = shown program scene m Live in
    let s = site_at program m x.world c.args.next in
    let known : known_at program c.args.place ≡ None = search rules in
    fault_reported program scene m m here NoMethod
    ∙ sym (ap (λ o. turned program x m.thread (called_known (own_call m.heap s) s c.args.object c.args.place o)) known)

pub returns-then-is_static-clause-step : goal.returns-then-is_static-clause-step
returns-then-is_static-clause-step c = λ scene here lives.
    let m = c.args.self.now in
    let program = c.args.program.now in
    let x = shown program scene m Live in
    let s = site_at program m x.world c.args.next in
    let method = c.in-Some.method.now in
    let known : known_at program c.args.place ≡ Some method = search rules in
    let static : is_static method ≡ true = search rules in
    fault_reported program scene m m here NoMethod
    ∙ sym (ap (λ o. turned program x m.thread (called_known (own_call m.heap s) s c.args.object c.args.place o)) known
    ∙ ap (turned program x m.thread) (static-known (own_call m.heap s) s c.args.object c.args.place method static))

pub returns-else-is_static-clause-step : goal.returns-else-is_static-clause-step
returns-else-is_static-clause-step c = λ scene here lives.
    let m = c.args.self.now in
    let program = c.args.program.now in
    let x = shown program scene m Live in
    let s = site_at program m x.world c.args.next in
    let method = c.in-Some.method.now in
    let known : known_at program c.args.place ≡ Some method = search rules in
    let instance : is_static method ≡ false = search rules in
    c.run_known.ensures.step scene here lives
    ∙ sym (ap (λ o. turned program x m.thread (called_known (own_call m.heap s) s c.args.object c.args.place o)) known
    ∙ ap (turned program x m.thread) (instance-known (own_call m.heap s) s c.args.object c.args.place method instance))
