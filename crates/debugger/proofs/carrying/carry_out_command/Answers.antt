use Rattle.std.proofs.Common.{◌≡◌, List, Option, Some, ap, refl, subst, ◌∙◌}
use Rattle.std.specs.Option.{option_map}
use Rattle.debug_texts.specs.Answers.{class_text, object_text, ran_text, stack_text, turn_text}
use Rattle.debug_texts.specs.Commands.Said.{Step, Collect, Run, Stack, Object, Heap, Class}
use Rattle.model.specs.declared.turns.Actor.TheVariants.{Thread as ByThread, Collector}
use Rattle.model.specs.declared.places.CodePlace.{CodePlace}
use Rattle.model.specs.ClassListings.{ClassListing}
use Rattle.model.specs.Machines.{answer_to}
use Rattle.model.specs.Observers.{class_state_of, object_of, thread_of}
use Rattle.model.specs.Worlds.{Object as ObjectValue}
use Rattle.debugger.specs.Breakpoints.{place_named}
use Rattle.debugger.specs.Runs.{run_for}
use Rattle.debugger.specs.Sessions.{Breaks, Carries, Does, debugged, heap_text}
use Rattle.debugger.proofs.Carried.{told_carries, written_carries}
use Rattle.debugger.proofs.carrying.carry_out_command.Goals as goal

pub returns-in-Break-clause-carried : goal.returns-in-Break-clause-carried
returns-in-Break-clause-carried g c =
    let s = debugged c.args.world.now c.args.breakpoints.now.slots in
    let t = debugged c.args.world.now c.break_at.new.breakpoints.slots in
    let C : Option CodePlace → Type 0 = λ place. Carries (Breaks s place) c.break_at.result s t
    (g.S.Sink.contents c.args.sink.now) (g.S.Sink.contents c.break_at.new.sink) in
    let P : List ClassListing → Option CodePlace = λ program. place_named program c.in-Break.class.now
    c.in-Break.name.now c.in-Break.descriptor.now c.in-Break.pc in
    let is : c.place_named-place.result ≡ P c.args.world.now.program =
    c.place_named-place.ensures ∙ ap P (c.listings.ensures.listings ∙ c.program.ensures) in
    rw c.in-Break.is (subst C is (c.break_at.ensures.carried c.args.world.now))

pub returns-in-Delete-clause-carried : goal.returns-in-Delete-clause-carried
returns-in-Delete-clause-carried g c = rw c.in-Delete.is (c.delete_at.ensures.carried c.args.world.now)

pub returns-in-Step-clause-carried : goal.returns-in-Step-clause-carried
returns-in-Step-clause-carried g c =
    let bs = c.args.breakpoints.now.slots in
    let v = c.args.world.now in
    let actor = ByThread c.in-Step.thread in
    rw c.in-Step.is
    (written_carries (Does (debugged v bs) (Some (Step c.in-Step.thread))) c.step.result (debugged v bs)
    (debugged c.step.new.world bs) (g.S.Sink.contents c.args.sink.now) (g.S.Sink.contents c.step.new.sink)
    (turn_text (answer_to v actor 0)) (ap (λ w. debugged w bs) c.step.ensures.world, refl) c.step.ensures.told)

pub returns-in-Collect-clause-carried : goal.returns-in-Collect-clause-carried
returns-in-Collect-clause-carried g c =
    let bs = c.args.breakpoints.now.slots in
    let v = c.args.world.now in
    let turn = c.step-in-Collect in
    rw c.in-Collect.is
    (written_carries (Does (debugged v bs) (Some Collect)) turn.result (debugged v bs) (debugged turn.new.world bs)
    (g.S.Sink.contents c.args.sink.now) (g.S.Sink.contents turn.new.sink) (turn_text (answer_to v Collector 0))
    (ap (λ w. debugged w bs) turn.ensures.world, refl) turn.ensures.told)

pub returns-in-Run-clause-carried : goal.returns-in-Run-clause-carried
returns-in-Run-clause-carried g c =
    let bs = c.args.breakpoints.now.slots in
    let v = c.args.world.now in
    let ran = run_for bs c.in-Run.turns v in
    rw c.in-Run.is
    (written_carries (Does (debugged v bs) (Some (Run c.in-Run.turns))) c.run_on.result (debugged v bs)
    (debugged c.run_on.new.world bs) (g.S.Sink.contents c.args.sink.now) (g.S.Sink.contents c.run_on.new.sink)
    (ran_text ran.turns ran.reason) (ap (λ w. debugged w bs) c.run_on.ensures.world, refl) c.run_on.ensures.told)

pub returns-in-Stack-clause-carried : goal.returns-in-Stack-clause-carried
returns-in-Stack-clause-carried g c =
    let s = debugged c.args.world.now c.args.breakpoints.now.slots in
    let text = stack_text s.world.program (thread_of s.world c.in-Stack.thread) in
    rw c.in-Stack.is
    (told_carries (Does s (Some (Stack c.in-Stack.thread))) c.put_made.result s (g.S.Sink.contents c.args.sink.now)
    (g.S.Sink.contents c.put_made.new.sink) text (refl, refl) (c.put_made.ensures.told text c.stack_of.ensures))

pub returns-in-Object-clause-carried : goal.returns-in-Object-clause-carried
returns-in-Object-clause-carried g c =
    let s = debugged c.args.world.now c.args.breakpoints.now.slots in
    let birth = c.in-Object.birth in
    let made = c.put_made-in-Object in
    let text = object_text birth (option_map (λ (o : ObjectValue). o.contents) (object_of s.world birth)) in
    rw c.in-Object.is
    (told_carries (Does s (Some (Object birth))) made.result s (g.S.Sink.contents c.args.sink.now)
    (g.S.Sink.contents made.new.sink) text (refl, refl) (made.ensures.told text c.object_of.ensures))

pub returns-in-Heap-clause-carried : goal.returns-in-Heap-clause-carried
returns-in-Heap-clause-carried g c =
    let s = debugged c.args.world.now c.args.breakpoints.now.slots in
    let made = c.put_made-in-Heap in
    rw c.in-Heap.is
    (told_carries (Does s (Some Heap)) made.result s (g.S.Sink.contents c.args.sink.now)
    (g.S.Sink.contents made.new.sink) (heap_text s.world) (refl, refl)
    (made.ensures.told (heap_text s.world) c.heap_of.ensures))

pub returns-in-Class-clause-carried : goal.returns-in-Class-clause-carried
returns-in-Class-clause-carried g c =
    let s = debugged c.args.world.now c.args.breakpoints.now.slots in
    let name = c.in-Class.name.now in
    rw c.in-Class.is
    (written_carries (Does s (Some (Class name))) c.put_state.result s s (g.S.Sink.contents c.args.sink.now)
    (g.S.Sink.contents c.put_state.new.sink) (class_text name (class_state_of s.world name)) (refl, refl)
    c.put_state.ensures.told)
