use Rattle.std.proofs.Common.{◌≡◌, ◌∙◌, Some, None, ap, false, sym, true, arith, length, ◌<◌}
use Rattle.std.specs.Prelude.{is_some}
use Rattle.model.specs.declared.turns.Fault.TheVariants.{NoMethod, ThreadLimit}
use Rattle.linking.proofs.RunLemmas.{none_hides}
use Rattle.instructions.specs.declared.kinds.Course.TheVariants.{Live}
use Rattle.instructions.specs.Acting.{shown, turned}
use Rattle.instructions.specs.Heaps.{kind_held}
use Rattle.instructions.specs.HeapThreads.{thread_held}
use Rattle.instructions.specs.OwnCalls.{begun_of}
use Rattle.instructions.proofs.AcceptedClasses.{unrefused}
use Rattle.instructions.proofs.ActingLemmas.{fault_reported}
use Rattle.instructions.proofs.AloneLemmas.{alone_reported}
use Rattle.instructions.proofs.BeginLemmas.{can-begin}
use Rattle.instructions.proofs.StartingLemmas.{start-again, start-full, start-new}
use Rattle.instructions.proofs.machines.Machine.start.Goals as goal

pub returns-then-is_some-clause-step : goal.returns-then-is_some-clause-step
returns-then-is_some-clause-step c = λ scene here lives.
    let m = c.args.self.now in
    let program = c.args.program.now in
    let x = shown program scene m Live in
    let is : is_some (thread_held m.heap c.args.object) ≡ true =
    sym (ap is_some c.thread.ensures) ∙ sym c.is_some.ensures ∙ c.if-is_some.true in
    rw c.alone.ensures (alone_reported x m.thread _ c.raise.result _ (c.raise.ensures.step scene here))
    ∙ sym (ap (turned program x m.thread) (start-again program scene m c.args.courses.now lives c.args.next
    c.args.object c.requires.object is))

pub returns-then-courses-ge-MOST_THREADS-clause-step : goal.returns-then-courses-ge-MOST_THREADS-clause-step
returns-then-courses-ge-MOST_THREADS-clause-step c = λ scene here lives.
    let m = c.args.self.now in
    let program = c.args.program.now in
    let x = shown program scene m Live in
    let is : is_some (thread_held m.heap c.args.object) ≡ false =
    sym (ap is_some c.thread.ensures) ∙ sym c.is_some.ensures ∙ c.if-is_some.false in
    fault_reported program scene m m here ThreadLimit
    ∙ sym (ap (turned program x m.thread) (start-full program scene m c.args.courses.now lives c.args.next c.args.object
    c.requires.object is
    c.if-courses-ge-MOST_THREADS.true))

pub returns-in-Some-begun_of-clause-step : goal.returns-in-Some-begun_of-clause-step
returns-in-Some-begun_of-clause-step c = λ scene here lives.
    let m = c.args.self.now in
    let program = c.args.program.now in
    let x = shown program scene m Live in
    let is : is_some (thread_held m.heap c.args.object) ≡ false =
    sym (ap is_some c.thread.ensures) ∙ sym c.is_some.ensures ∙ c.if-is_some.false in
    let few : length c.args.courses.now < 64 = omega (arith, c.if-courses-ge-MOST_THREADS.false) in
    let begun : Some c.in-Some-begun_of.begun ≡ begun_of program c.args.object (kind_held m.heap c.args.object) =
    sym c.in-Some-begun_of.is ∙ c.begun_of.ensures
    ∙ sym (ap (begun_of program c.args.object) (sym c.kind.ensures ∙ c.in-Some.is)) in
    c.begin.ensures.step scene here lives
    ∙ sym (ap (turned program x m.thread) (start-new program scene m c.args.courses.now lives c.args.next c.args.object
    c.requires.object is few _ begun))

pub returns-in-Some-begun_of-clause-begins : goal.returns-in-Some-begun_of-clause-begins
returns-in-Some-begun_of-clause-begins c =
    let program = c.args.program.now in
    let accepted = c.requires.ready.accepted in
    let few : length c.args.courses.now < 64 = omega (arith, c.if-courses-ge-MOST_THREADS.false) in
    rw c.begin.ensures.begun
    (can-begin program (unrefused program accepted) (none_hides program accepted) c.args.courses.now few c.args.object
    c.in-Some.kind
    c.in-Some-begun_of.begun (sym c.begun_of.ensures ∙ c.in-Some-begun_of.is))

pub returns-in-None-begun_of-clause-step : goal.returns-in-None-begun_of-clause-step
returns-in-None-begun_of-clause-step c = λ scene here lives.
    let m = c.args.self.now in
    let program = c.args.program.now in
    let x = shown program scene m Live in
    let is : is_some (thread_held m.heap c.args.object) ≡ false =
    sym (ap is_some c.thread.ensures) ∙ sym c.is_some.ensures ∙ c.if-is_some.false in
    let few : length c.args.courses.now < 64 = omega (arith, c.if-courses-ge-MOST_THREADS.false) in
    let begun : None ≡ begun_of program c.args.object (kind_held m.heap c.args.object) =
    sym c.in-None-begun_of.is ∙ c.begun_of.ensures
    ∙ sym (ap (begun_of program c.args.object) (sym c.kind.ensures ∙ c.in-Some.is)) in
    fault_reported program scene m m here NoMethod
    ∙ sym (ap (turned program x m.thread) (start-new program scene m c.args.courses.now lives c.args.next c.args.object
    c.requires.object is few _ begun))
