use Rattle.std.proofs.Common.{◌≡◌, ◌<◌, ◌∙◌, Some, ap, arith, length, slice_get, sym}
use Rattle.join.proofs.Lists.{get-within}
use Rattle.instructions.specs.declared.machines.Machine.{Machine}
use Rattle.instructions.specs.Threads.{ThreadsValue}
use Rattle.instructions.proofs.LeftAlone.{alone-frames, alone-waits, beside_frames}
use Rattle.instructions.proofs.SwitchLemmas.{other-turn}
use Rattle.instructions.proofs.ThreadLemmas.{index-is}
use Rattle.instructions.proofs.threads.Threads.turn_parked.Goals as goal

pub returns-clause-turn : goal.returns-clause-turn
returns-clause-turn c = λ made.
    let m = c.args.machine.now in
    let t = c.args.thread in
    let parked = c.self.inside.parked.items in
    let threads : ThreadsValue = record { courses = c.self.inside.courses.items; parked = parked } in
    let count = ap (λ (v : ThreadsValue). length v.courses) c.self.view_is in
    let few = c.self.invariant.few in
    let all = c.self.invariant.all in
    let running : m.thread < length parked = omega (arith, c.requires.running, count, few, all) in
    let there : t < length parked = omega (arith, c.requires.thread, count, few, all) in
    let found = get-within parked t there in
    let frames = c.index_mut.result.now in
    let own : slice_get parked t ≡ Some frames =
    found.1 ∙ ap (λ fs. Some fs) (sym (c.index_mut.ensures.value ∙ index-is parked t found.0 frames found.1)) in
    let old : Machine = record m { thread = t } in
    rw (← c.self.view_is)
    (other-turn c.args.program.now threads m t c.requires.other running there frames c.turn_beside-made.new.frames own
    c.turn_beside-made.new.self (alone-frames old c.turn_beside-made.new.self c.turn_beside-made.ensures.alone)
    (c.turn_beside-made.ensures.turn made))

pub returns-clause-waits : goal.returns-clause-waits
returns-clause-waits c = λ _.
    let m = c.args.machine.now in
    let after : Machine = record c.turn_beside-made.new.self { thread = m.thread } in
    alone-waits m after (ap beside_frames c.turn_beside-made.ensures.alone)
