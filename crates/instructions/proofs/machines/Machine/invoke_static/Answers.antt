use Rattle.std.proofs.Common.{◌≡◌, ◌∙◌, None, Some, ap, reverse, rules, sym}
use Rattle.std.specs.Option.{option_map_or}
use Rattle.model.specs.Completions.Completion.{Faults}
use Rattle.model.specs.declared.turns.Fault.TheVariants.{NoMethod}
use Rattle.model.specs.Frames.{running_frame}
use Rattle.model.specs.Table.Invokes.{fault_in_pops}
use Rattle.instructions.specs.declared.kinds.Course.TheVariants.{Live}
use Rattle.instructions.specs.Acting.{shown, site_at, turned}
use Rattle.instructions.specs.CallsByNumbers.{called_static, known_at, no_own, runs}
use Rattle.instructions.proofs.ActingLemmas.{fault_reported}
use Rattle.instructions.proofs.machines.Machine.invoke_static.Goals as goal

pub returns-in-None-clause-step : goal.returns-in-None-clause-step
returns-in-None-clause-step c = λ scene here.
    let m = c.args.self.now in
    let program = c.args.program.now in
    let x = shown program scene m Live in
    let s = site_at program m x.world c.args.next in
    let known : known_at program c.args.place ≡ None = search rules in
    fault_reported program scene m m here NoMethod
    ∙ sym (ap (λ o. turned program x m.thread (called_static s c.args.place o)) known)

pub returns-in-Some-argument_fault-clause-step : goal.returns-in-Some-argument_fault-clause-step
returns-in-Some-argument_fault-clause-step c = λ scene here.
    let m = c.args.self.now in
    let program = c.args.program.now in
    let x = shown program scene m Live in
    let s = site_at program m x.world c.args.next in
    let method = c.in-Some.method.now in
    let known : known_at program c.args.place ≡ Some method = search rules in
    let fault : fault_in_pops (reverse method.arguments) (running_frame m.frames).stack
    ≡ Some c.in-Some-argument_fault.fault = search rules in
    let further = runs no_own s c.args.place method None method.body in
    fault_reported program scene m m here c.in-Some-argument_fault.fault
    ∙ sym (ap (λ o. turned program x m.thread (called_static s c.args.place o)) known
    ∙ ap (λ o. turned program x m.thread (option_map_or Faults o further)) fault)
