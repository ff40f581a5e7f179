use Rattle.std.proofs.Common.{◌≡◌, ◌∙◌, ap, false, sym, true}
use Rattle.instructions.specs.declared.kinds.Course.TheVariants.{Live}
use Rattle.instructions.specs.Acting.{shown, turned}
use Rattle.instructions.specs.HeapThreads.{thread_held}
use Rattle.instructions.specs.Starting.{lives_on}
use Rattle.instructions.proofs.InitialisingLemmas.{waits_reported}
use Rattle.instructions.proofs.StartingLemmas.{join-is}
use Rattle.instructions.proofs.machines.Machine.join.Goals as goal

pub returns-then-lives-clause-step : goal.returns-then-lives-clause-step
returns-then-lives-clause-step c = λ scene here lives.
    let m = c.args.self.now in
    let program = c.args.program.now in
    let x = shown program scene m Live in
    let is : true ≡ lives_on c.args.courses.now (thread_held m.heap c.args.object) =
    sym c.if-lives.true ∙ c.lives.ensures ∙ ap (lives_on c.args.courses.now) c.thread.ensures in
    rw c.to-turned.ensures
    (waits_reported program scene m
    ∙ sym (ap (turned program x m.thread) (join-is program scene m c.args.courses.now lives c.args.next
    c.args.object true is)))

pub returns-else-lives-clause-step : goal.returns-else-lives-clause-step
returns-else-lives-clause-step c = λ scene here lives.
    let m = c.args.self.now in
    let program = c.args.program.now in
    let x = shown program scene m Live in
    let is : false ≡ lives_on c.args.courses.now (thread_held m.heap c.args.object) =
    sym c.if-lives.false ∙ c.lives.ensures ∙ ap (lives_on c.args.courses.now) c.thread.ensures in
    c.do_nothing-turned.ensures.step scene here
    ∙ sym (ap (turned program x m.thread) (join-is program scene m c.args.courses.now lives c.args.next c.args.object
    false is))
