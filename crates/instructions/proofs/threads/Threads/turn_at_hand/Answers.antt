-- The turn of the thread that the machine runs, on its frames where parked ones stand, and back.
use Rattle.std.proofs.Common.{◌≡◌, ◌<◌, ◌∙◌, Some, ap, arith, length, length-set, slice_get, subst, sym}
use Rattle.std.specs.Prelude.{slice_set}
use Rattle.join.proofs.Lists.{get-within}
use Rattle.instructions.specs.declared.machines.Machine.{Machine}
use Rattle.instructions.specs.PlainRuns.{IsPlainTurn, with_frames}
use Rattle.instructions.specs.Switching.{TurnsApart}
use Rattle.instructions.specs.Threads.{ThreadsValue}
use Rattle.instructions.proofs.LeftAlone.{alone-frames, alone-waits, beside_frames}
use Rattle.instructions.proofs.SwitchLemmas.{changed-back, found-there, own-turn}
use Rattle.instructions.proofs.ThreadLemmas.{index-is}
use Rattle.instructions.proofs.threads.Threads.turn_at_hand.Goals as goal

pub returns-clause-turn : goal.returns-clause-turn
returns-clause-turn c = λ made.
    let m = c.args.machine.now in
    let program = c.args.program.now in
    let r = m.thread in
    let parked = c.self.inside.parked.items in
    let courses = c.self.inside.courses.items in
    let threads : ThreadsValue = record { courses = courses; parked = parked } in
    let first = c.exchange.new.parked.items in
    let nobody = c.exchange.new.frames in
    let is = c.exchange.ensures.parked in
    let count = ap (λ (v : ThreadsValue). length v.courses) c.self.view_is in
    let few = c.self.invariant.few in
    let all = c.self.invariant.all in
    let here : r < length parked = omega (arith, c.requires.running, count, few, all) in
    let long = ap length is in
    let longer = length-set parked r m.frames in
    let here_then : r < length first = omega (arith, here, long, longer) in
    let found = get-within first r here_then in
    let frames = c.index_mut.result.now in
    let lent : slice_get first r ≡ Some frames =
    found.1 ∙ ap (λ fs. Some fs) (sym (c.index_mut.ensures.value ∙ index-is first r found.0 frames found.1)) in
    let own : frames ≡ m.frames = found-there parked r m.frames frames here
    (subst (λ fs. slice_get fs r ≡ Some frames) is lent) in
    let left = c.turn_beside-made.new.frames in
    let after = c.turn_beside-made.new.self in
    let aside : Machine = with_frames m nobody in
    let turn : IsPlainTurn program m (with_frames after left) =
    subst (λ fs. IsPlainTurn program (with_frames aside fs) (with_frames after left)) own
    (c.turn_beside-made.ensures.turn made) in
    let back = c.exchange-2.new.frames in
    let back_is : back ≡ left = found-there first r left back here_then c.exchange-2.ensures.frames in
    let parked_is : c.exchange-2.new.parked.items ≡ parked =
    c.exchange-2.ensures.parked
    ∙ ap (slice_set (slice_set first r left) r) (alone-frames aside after c.turn_beside-made.ensures.alone)
    ∙ ap (λ fs. slice_set (slice_set fs r left) r nobody) is
    ∙ changed-back parked r m.frames nobody left c.exchange.ensures.frames in
    rw (← c.self.view_is)
    (subst (λ fs. TurnsApart program threads m r (let v : ThreadsValue = record { courses = courses; parked = fs } in v)
    (with_frames after back)) (sym parked_is)
    (own-turn program threads m (with_frames after back) here turn.keeps.thread
    (subst (λ fs. IsPlainTurn program m (with_frames after fs)) (sym back_is) turn)))

pub returns-clause-waits : goal.returns-clause-waits
returns-clause-waits c = λ _.
    alone-waits c.args.machine.now (with_frames c.turn_beside-made.new.self c.exchange-2.new.frames)
    (ap beside_frames c.turn_beside-made.ensures.alone)

pub returns-clause-threads : goal.returns-clause-threads
returns-clause-threads c = λ _.
    let m = c.args.machine.now in
    let r = m.thread in
    let parked = c.self.inside.parked.items in
    let courses = c.self.inside.courses.items in
    let first = c.exchange.new.parked.items in
    let nobody = c.exchange.new.frames in
    let left = c.turn_beside-made.new.frames in
    let parked_is : c.exchange-2.new.parked.items ≡ parked =
    c.exchange-2.ensures.parked
    ∙ ap (slice_set (slice_set first r left) r)
    (alone-frames (with_frames m nobody) c.turn_beside-made.new.self c.turn_beside-made.ensures.alone)
    ∙ ap (λ fs. slice_set (slice_set fs r left) r nobody) c.exchange.ensures.parked
    ∙ changed-back parked r m.frames nobody left c.exchange.ensures.frames in
    rw (← c.self.view_is)
    (ap (λ fs. let v : ThreadsValue = record { courses = courses; parked = fs } in v) parked_is)

pub returns-clause-machine : goal.returns-clause-machine
returns-clause-machine c = λ none.
    let m = c.args.machine.now in
    let r = m.thread in
    let parked = c.self.inside.parked.items in
    let first = c.exchange.new.parked.items in
    let is = c.exchange.ensures.parked in
    let count = ap (λ (v : ThreadsValue). length v.courses) c.self.view_is in
    let few = c.self.invariant.few in
    let all = c.self.invariant.all in
    let here : r < length parked = omega (arith, c.requires.running, count, few, all) in
    let long = ap length is in
    let longer = length-set parked r m.frames in
    let here_then : r < length first = omega (arith, here, long, longer) in
    let found = get-within first r here_then in
    let frames = c.index_mut.result.now in
    let lent : slice_get first r ≡ Some frames =
    found.1 ∙ ap (λ fs. Some fs) (sym (c.index_mut.ensures.value ∙ index-is first r found.0 frames found.1)) in
    let own : frames ≡ m.frames = found-there parked r m.frames frames here
    (subst (λ fs. slice_get fs r ≡ Some frames) is lent) in
    let back = c.exchange-2.new.frames in
    let back_is : back ≡ c.turn_beside-made.new.frames = found-there first r c.turn_beside-made.new.frames back here_then
    c.exchange-2.ensures.frames in
    ap (λ (x : Machine). with_frames x back) (c.turn_beside-made.ensures.machine none)
    ∙ ap (with_frames m) (back_is ∙ c.turn_beside-made.ensures.frames none ∙ own)
