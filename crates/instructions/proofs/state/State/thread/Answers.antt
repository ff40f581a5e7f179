use Rattle.std.proofs.Common.{◌∙◌, ap, false, map, refl, sym, Some}
use Rattle.std.specs.Prelude.{slice_get}
use Rattle.std.specs.Option.{option_map, option_map_or}
use Rattle.model.specs.Naming.{named_frame, named_thread}
use Rattle.model.specs.Worlds.Thread.{Live as LiveThread, Ended}
use Rattle.join.specs.ReadBack.{birth_read}
use Rattle.instructions.specs.declared.kinds.Course.TheVariants.{Returned, Threw}
use Rattle.instructions.specs.Threads.{goes_on}
use Rattle.instructions.proofs.ThreadLemmas.{ended_got, live_thread, none_got}
use Rattle.instructions.proofs.Waiting.{all_now, lives_now, now}
use Rattle.instructions.proofs.state.State.thread.Goals as goal

pub frames-requires : goal.frames-requires
frames-requires c =
    let a = c.self.inside in
    let started = sym c.course.ensures ∙ c.in-Some-Live.is ∙ ap Some c.in-Some-Live.field-0-is in
    rw (← c.self.view_is) (sym (lives_now a c.args.thread) ∙ ap (λ o. option_map_or goes_on o false) started)

pub returns-in_ok-named-in-Some-Live : goal.returns-in_ok-named-in-Some-Live
returns-in_ok-named-in-Some-Live c =
    let a = c.self.inside in
    let births = birth_read a.machine.heap.account.cells in
    let started = sym c.course.ensures ∙ c.in-Some-Live.is ∙ ap Some c.in-Some-Live.field-0-is in
    let live = sym (lives_now a c.args.thread) ∙ ap (λ o. option_map_or goes_on o false) started in
    ap (λ fs. Some (LiveThread fs)) (c.in_ok-named-in-Some-Live.ensures
    ∙ ap (map (named_frame births)) (c.deref.ensures.value ∙ c.in_ok-frames-in-Some-Live.ensures
    ∙ sym c.frames.ensures))
    ∙ rw (← c.self.view_is)
    (sym (ap (option_map (named_thread births)) (live_thread (slice_get (now a).threads c.args.thread) live)))

pub returns-in-Some-Returned : goal.returns-in-Some-Returned
returns-in-Some-Returned c =
    let a = c.self.inside in
    let started = sym c.course.ensures ∙ c.in-Some-Returned.is ∙ ap Some c.in-Some-Returned.field-0-is in
    rw (← c.self.view_is)
    (sym (ap (option_map (named_thread (birth_read a.machine.heap.account.cells)))
    (ended_got a.program a.threads.courses (all_now a) c.args.thread Returned started refl)))

pub returns-in_ok-class-in-Some-Threw : goal.returns-in_ok-class-in-Some-Threw
returns-in_ok-class-in-Some-Threw c =
    let a = c.self.inside in
    let started = sym c.course.ensures ∙ c.in-Some-Threw.is ∙ ap Some c.in-Some-Threw.field-0-is in
    ap (λ class. Some (Ended (Some class))) c.in_ok-class-in-Some-Threw.ensures
    ∙ rw (← c.self.view_is)
    (sym (ap (option_map (named_thread (birth_read a.machine.heap.account.cells)))
    (ended_got a.program a.threads.courses (all_now a) c.args.thread (Threw c.in-Some-Threw.kind) started refl)))

pub returns-in-None : goal.returns-in-None
returns-in-None c =
    let a = c.self.inside in
    rw (← c.self.view_is)
    (sym (ap (option_map (named_thread (birth_read a.machine.heap.account.cells)))
    (none_got a.program a.threads.courses (all_now a) c.args.thread (sym c.course.ensures ∙ c.in-None.is))))
