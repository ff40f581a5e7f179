use Rattle.std.proofs.Common.{◌≡◌, ◌∙◌, Some, ap, false, refl, rules, sym, true}
use Rattle.model.specs.declared.turns.Fault.TheVariants.{WrongClass}
use Rattle.instructions.specs.declared.kinds.Course.TheVariants.{Live}
use Rattle.instructions.specs.Acting.{shown, site_at, turned}
use Rattle.instructions.specs.OwnCalls.{own_call}
use Rattle.instructions.specs.CallsByNumbers.{is_of}
use Rattle.instructions.specs.Heaps.{kind_held}
use Rattle.instructions.proofs.ActingLemmas.{fault_reported}
use Rattle.instructions.proofs.InvokeLemmas.{called-other, called-this}
use Rattle.instructions.proofs.machines.Machine.call_special.Goals as goal

pub returns-then-is_of-clause-step : goal.returns-then-is_of-clause-step
returns-then-is_of-clause-step c = λ scene here lives.
    let m = c.args.self.now in
    let program = c.args.program.now in
    let x = shown program scene m Live in
    let s = site_at program m x.world c.args.next in
    let is : is_of program (kind_held m.heap c.args.object) c.args.class ≡ true = search rules in
    c.run_on.ensures.step scene here lives
    ∙ sym (ap (turned program x m.thread)
    (called-this (own_call m.heap s) s c.args.class c.args.object (λ kind. Some c.args.place)
    (kind_held m.heap c.args.object) (Some c.args.place) is (λ kind. refl)))

pub returns-clause-step : goal.returns-clause-step
returns-clause-step c = λ scene here lives.
    let m = c.args.self.now in
    let program = c.args.program.now in
    let x = shown program scene m Live in
    let s = site_at program m x.world c.args.next in
    let is : is_of program (kind_held m.heap c.args.object) c.args.class ≡ false = search rules in
    fault_reported program scene m m here WrongClass
    ∙ sym (ap (turned program x m.thread)
    (called-other (own_call m.heap s) s c.args.class c.args.object (λ kind. Some c.args.place)
    (kind_held m.heap c.args.object) is))
