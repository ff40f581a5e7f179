use Rattle.std.proofs.Common.{◌∙◌, ◌+◌, Some, ap, arith, length, sym}
use Rattle.model.specs.declared.turns.Fault.TheVariants.{NoMethod}
use Rattle.model.specs.Frames.{running_frame}
use Rattle.instructions.specs.declared.kinds.Course.TheVariants.{Live}
use Rattle.instructions.specs.Acting.{shown, site_at, turned}
use Rattle.instructions.specs.OwnCalls.{own_call}
use Rattle.instructions.specs.CallsByNumbers.{enters, runs}
use Rattle.instructions.proofs.ActingLemmas.{fault_reported}
use Rattle.instructions.proofs.AloneLemmas.{alone_begins, alone_reported}
use Rattle.instructions.proofs.CodeCalled.{instance-called}
use Rattle.instructions.proofs.OwnArguments.{object-top}
use Rattle.instructions.proofs.machines.Machine.run_known.Goals as goal

pub overflow_cast-called : goal.overflow_cast-called
overflow_cast-called c =
    let called = instance-called c.args.program.now c.requires.ready.accepted c.args.place c.args.method.now
    c.in-Coded.max_locals c.in-Coded.max_stack c.requires.known
    (sym c.body.ensures ∙ c.in-Coded.is) (running_frame c.args.self.now.frames).stack c.requires.instance c.args.object
    c.requires.operands in
    let same = ap length c.arguments.ensures in
    let few = called.few in
    omega (arith, few, same)

pub overflow_add-called : goal.overflow_add-called
overflow_add-called c =
    let called = instance-called c.args.program.now c.requires.ready.accepted c.args.place c.args.method.now
    c.in-Coded.max_locals c.in-Coded.max_stack c.requires.known
    (sym c.body.ensures ∙ c.in-Coded.is) (running_frame c.args.self.now.frames).stack c.requires.instance c.args.object
    c.requires.operands in
    let same = ap length c.arguments.ensures in
    let few = called.few in
    omega (arith, few, same)

pub enter-requires-clause-there : goal.enter-requires-clause-there
enter-requires-clause-there c =
    let called = instance-called c.args.program.now c.requires.ready.accepted c.args.place c.args.method.now
    c.in-Coded.max_locals c.in-Coded.max_stack c.requires.known
    (sym c.body.ensures ∙ c.in-Coded.is) (running_frame c.args.self.now.frames).stack c.requires.instance c.args.object
    c.requires.operands in
    let same = ap length c.arguments.ensures in
    let deep = called.deep in
    omega (arith, deep, same)

pub enter-requires-clause-enough : goal.enter-requires-clause-enough
enter-requires-clause-enough c =
    let called = instance-called c.args.program.now c.requires.ready.accepted c.args.place c.args.method.now
    c.in-Coded.max_locals c.in-Coded.max_stack c.requires.known
    (sym c.body.ensures ∙ c.in-Coded.is) (running_frame c.args.self.now.frames).stack c.requires.instance c.args.object
    c.requires.operands in
    let same = ap length c.arguments.ensures in
    rw same called.enough

pub returns-in-NoCode-clause-step : goal.returns-in-NoCode-clause-step
returns-in-NoCode-clause-step c = λ scene here lives.
    let m = c.args.self.now in
    let program = c.args.program.now in
    let x = shown program scene m Live in
    let s = site_at program m x.world c.args.next in
    fault_reported program scene m m here NoMethod
    ∙ ap (λ body. turned program x m.thread (runs (own_call m.heap s) s c.args.place c.args.method.now
    (Some c.args.object) body)) (sym c.in-NoCode.is ∙ c.body.ensures)

pub returns-in-Own-clause-step : goal.returns-in-Own-clause-step
returns-in-Own-clause-step c = λ scene here lives.
    let m = c.args.self.now in
    let program = c.args.program.now in
    let x = shown program scene m Live in
    let s = site_at program m x.world c.args.next in
    c.call_own.ensures.step scene here lives
    ∙ ap (λ body. turned program x m.thread (runs (own_call m.heap s) s c.args.place c.args.method.now
    (Some c.args.object) body)) (sym c.in-Own.is ∙ c.body.ensures)

pub returns-in-Coded-clause-step : goal.returns-in-Coded-clause-step
returns-in-Coded-clause-step c = λ scene here lives.
    let m = c.args.self.now in
    let program = c.args.program.now in
    let x = shown program scene m Live in
    let s = site_at program m x.world c.args.next in
    let method = c.args.method.now in
    rw c.alone.ensures (alone_reported x m.thread _ c.enter.result _ (c.enter.ensures.step scene here))
    ∙ ap (λ kinds. turned program x m.thread (enters s c.args.place c.in-Coded.max_locals c.in-Coded.max_stack
    (length kinds + 1) c.monitor_for.result)) c.arguments.ensures
    ∙ ap (λ monitor. turned program x m.thread (enters s c.args.place c.in-Coded.max_locals c.in-Coded.max_stack
    (length method.arguments + 1) monitor)) c.monitor_for.ensures
    ∙ ap (λ body. turned program x m.thread (runs (own_call m.heap s) s c.args.place method (Some c.args.object) body))
    (sym c.in-Coded.is ∙ c.body.ensures)

pub returns-in-Coded-clause-begins : goal.returns-in-Coded-clause-begins
returns-in-Coded-clause-begins c = rw c.alone.ensures (alone_begins c.args.courses.now c.enter.result)

pub call_own-requires-clause-top : goal.call_own-requires-clause-top
call_own-requires-clause-top c = λ plain.
    object-top c.args.program.now c.args.place c.args.method.now c.requires.known c.in-Own.builtin
    (sym c.body.ensures ∙ c.in-Own.is) plain (running_frame c.args.self.now.frames).stack c.args.object
    c.requires.operands
