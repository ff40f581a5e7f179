use Rattle.std.proofs.Common.{◌∙◌, sym}
use Rattle.model.specs.Observers.{is_held_by_output}
use Rattle.instructions.proofs.CyclicLemmas.{any-here, any-next, any-none}
use Rattle.instructions.proofs.Waiting.{some_held}
use Rattle.instructions.proofs.state.State.some_overflows.Goals as goal

pub returns-then-is_held_by_output : goal.returns-then-is_held_by_output
returns-then-is_held_by_output c =
    let s = c.args.self.now in
    let p = is_held_by_output s.program s.limits s.machine.world in
    any-here p c.loop-thread.thread c.count-count.result c.loop-thread-test.true (sym c.is_held_by_output.ensures
    ∙ c.if-is_held_by_output.true)
    ∙ sym c.loop-thread.invariant
    ∙ rw (← c.self.view_is) (some_held c.self.inside _ c.count-count.result c.count-count.ensures)

pub loop-thread-preserved : goal.loop-thread-preserved
loop-thread-preserved c =
    let s = c.args.self.now in
    let p = is_held_by_output s.program s.limits s.machine.world in
    c.loop-thread.invariant
    ∙ any-next p c.loop-thread.thread c.count-count.result c.loop-thread-test.true (sym c.is_held_by_output.ensures
    ∙ c.if-is_held_by_output.false)

pub returns : goal.returns
returns c =
    let s = c.args.self.now in
    let p = is_held_by_output s.program s.limits s.machine.world in
    any-none p c.loop-thread.thread c.count-count.result c.loop-thread-test.false
    ∙ sym c.loop-thread.invariant
    ∙ rw (← c.self.view_is) (some_held c.self.inside _ c.count-count.result c.count-count.ensures)
