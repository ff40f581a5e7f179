use Rattle.std.proofs.Common.{◌∙◌, None, ap, arith, length, sym}
use Rattle.model.specs.Frames.{running_frame}
use Rattle.model.specs.declared.turns.Fault.TheVariants.{NoInstruction, NoMethod}
use Rattle.instructions.specs.declared.kinds.Course.TheVariants.{Live}
use Rattle.instructions.specs.Acting.{shown, site_at, turned}
use Rattle.instructions.specs.CallsByNumbers.{enters, no_own, runs}
use Rattle.instructions.proofs.ActingLemmas.{fault_reported}
use Rattle.instructions.proofs.CodeCalled.{static-called}
use Rattle.instructions.proofs.EnterLemmas.{static-enters}
use Rattle.instructions.proofs.machines.Machine.run_static.Goals as goal

pub overflow_cast-called : goal.overflow_cast-called
overflow_cast-called c =
    let called = static-called c.args.program.now c.requires.ready.accepted c.args.place c.args.method.now
    c.in-Coded.max_locals c.in-Coded.max_stack c.requires.known
    (sym c.body.ensures ∙ c.in-Coded.is) (running_frame c.args.self.now.frames).stack c.requires.arguments in
    let same = ap length c.arguments.ensures in
    let few = called.few in
    omega (arith, few, same)

pub enter-requires-clause-there : goal.enter-requires-clause-there
enter-requires-clause-there c =
    let called = static-called c.args.program.now c.requires.ready.accepted c.args.place c.args.method.now
    c.in-Coded.max_locals c.in-Coded.max_stack c.requires.known
    (sym c.body.ensures ∙ c.in-Coded.is) (running_frame c.args.self.now.frames).stack c.requires.arguments in
    let same = ap length c.arguments.ensures in
    let deep = called.deep in
    omega (arith, deep, same)

pub enter-requires-clause-enough : goal.enter-requires-clause-enough
enter-requires-clause-enough c =
    let called = static-called c.args.program.now c.requires.ready.accepted c.args.place c.args.method.now
    c.in-Coded.max_locals c.in-Coded.max_stack c.requires.known
    (sym c.body.ensures ∙ c.in-Coded.is) (running_frame c.args.self.now.frames).stack c.requires.arguments in
    let same = ap length c.arguments.ensures in
    rw same called.enough

pub returns-in-NoCode-clause-step : goal.returns-in-NoCode-clause-step
returns-in-NoCode-clause-step c = λ scene here.
    let m = c.args.self.now in
    let program = c.args.program.now in
    let x = shown program scene m Live in
    let s = site_at program m x.world c.args.next in
    fault_reported program scene m m here NoMethod
    ∙ ap (λ body. turned program x m.thread (runs no_own s c.args.place c.args.method.now None body))
    (sym c.in-NoCode.is ∙ c.body.ensures)

pub returns-in-Own-clause-step : goal.returns-in-Own-clause-step
returns-in-Own-clause-step c = λ scene here.
    let m = c.args.self.now in
    let program = c.args.program.now in
    let x = shown program scene m Live in
    let s = site_at program m x.world c.args.next in
    fault_reported program scene m m here NoInstruction
    ∙ ap (λ body. turned program x m.thread (runs no_own s c.args.place c.args.method.now None body)) (sym c.in-Own.is
    ∙ c.body.ensures)

pub returns-in-Coded-clause-step : goal.returns-in-Coded-clause-step
returns-in-Coded-clause-step c = λ scene here.
    let m = c.args.self.now in
    let program = c.args.program.now in
    let x = shown program scene m Live in
    let s = site_at program m x.world c.args.next in
    let method = c.args.method.now in
    c.enter.ensures.step scene here
    ∙ ap (λ kinds. turned program x m.thread (enters s c.args.place c.in-Coded.max_locals c.in-Coded.max_stack
    (length kinds) None)) c.arguments.ensures
    ∙ ap (turned program x m.thread) (static-enters no_own s c.args.place method c.in-Coded.max_locals
    c.in-Coded.max_stack)
    ∙ ap (λ body. turned program x m.thread (runs no_own s c.args.place method None body)) (sym c.in-Coded.is
    ∙ c.body.ensures)
