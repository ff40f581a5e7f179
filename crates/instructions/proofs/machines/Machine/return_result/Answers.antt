use Rattle.std.proofs.Common.{◌≡◌, true, false, ap, sym, ◌∙◌, rules}
use Rattle.model.specs.Frames.{running_frame}
use Rattle.model.specs.Programs.{method_at}
use Rattle.model.specs.Table.Returns.{gives}
use Rattle.instructions.specs.declared.kinds.Course.TheVariants.{Live}
use Rattle.instructions.specs.Acting.{shown, site_at, turned}
use Rattle.instructions.proofs.ActingLemmas.{fault_reported}
use Rattle.instructions.proofs.ReturnLemmas.{gives_fault, gives_nothing, gives_value, wrong}
use Rattle.instructions.proofs.machines.Machine.return_result.Goals as goal

pub returns-then-not-gives-clause-step : goal.returns-then-not-gives-clause-step
returns-then-not-gives-clause-step c = λ n scene here.
    let m = c.args.self.now in
    let program = c.args.program.now in
    let x = shown program scene m Live in
    let s = site_at program m x.world n in
    let other : gives c.args.kind (method_at program (running_frame m.frames).method) ≡ false = search rules in
    fault_reported program scene m m here _ ∙ sym (ap (turned program x m.thread) (wrong s c.args.kind other))

pub returns-in-None-clause-step : goal.returns-in-None-clause-step
returns-in-None-clause-step c = λ n scene here.
    let m = c.args.self.now in
    let program = c.args.program.now in
    let x = shown program scene m Live in
    let s = site_at program m x.world n in
    let same : gives c.args.kind (method_at program (running_frame m.frames).method) ≡ true = search rules in
    rw c.in-None.is
    (c.leave_with.ensures.step n scene here
    ∙ sym (ap (turned program x m.thread) (gives_nothing s (rw c.in-None.is at same))))

pub returns-in-Ok-clause-step : goal.returns-in-Ok-clause-step
returns-in-Ok-clause-step c = λ n scene here.
    let m = c.args.self.now in
    let program = c.args.program.now in
    let x = shown program scene m Live in
    let s = site_at program m x.world n in
    let same : gives c.args.kind (method_at program (running_frame m.frames).method) ≡ true = search rules in
    rw c.in-Some.is
    (c.leave_with-in-Ok.ensures.step n scene here
    ∙ sym (ap (turned program x m.thread)
    (gives_value s c.in-Some.kind c.in-Ok.value (rw c.in-Some.is at same) c.in-Ok.ensures.value)))

pub returns-in-Err-clause-step : goal.returns-in-Err-clause-step
returns-in-Err-clause-step c = λ n scene here.
    let m = c.args.self.now in
    let program = c.args.program.now in
    let x = shown program scene m Live in
    let s = site_at program m x.world n in
    let same : gives c.args.kind (method_at program (running_frame m.frames).method) ≡ true = search rules in
    rw c.in-Some.is
    (fault_reported program scene m m here _
    ∙ sym (ap (turned program x m.thread)
    (gives_fault s c.in-Some.kind c.in-Err.fault (rw c.in-Some.is at same) c.in-Err.ensures.value)))
