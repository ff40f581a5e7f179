-- The collector's turn on the state's parts is that of the machine on cells.
use Rattle.std.proofs.Common.{◌<◌, arith}
use Rattle.model.specs.declared.turns.Actor.TheVariants.{Collector}
use Rattle.instructions.proofs.LoneRoundLemmas.{collected-sound, heap-alone}
use Rattle.instructions.proofs.Refusing.{unrefused_counted}
use Rattle.instructions.proofs.Turning.{collected_shown}
use Rattle.instructions.proofs.Waiting.{now}
use Rattle.instructions.proofs.state.State.collect.Goals as goal

pub overflow_add-self : goal.overflow_add-self
overflow_add-self c =
    let h : c.self.inside.rows < c.self.inside.limits.steps = unrefused_counted c.self.inside.program
    c.self.inside.limits (now c.self.inside) Collector (rw (← c.self.view_is) at c.requires) in
    omega (arith, h)

pub collect-requires-clause-running : goal.collect-requires-clause-running
collect-requires-clause-running c = omega (arith, c.self.invariant.started, c.self.invariant.few_threads)

pub returns : goal.returns
returns c =
    rw (
      c.collect.ensures.heap,
      c.collect.ensures.thread,
      c.collect.ensures.frames,
      c.collect.ensures.slots,
      c.collect.ensures.states,
      c.collect.ensures.output,
      ← c.self.view_is,
    )
    (collected_shown c.self.inside)

pub invariant_of-self : goal.invariant_of-self
invariant_of-self c =
    let a = c.self.inside in
    let m = c.collect.new.self in
    let is = c.collect.ensures in
    collected-sound a c.self.invariant m (heap-alone a.machine m _ is.heap is.thread is.frames is.slots is.states
    is.output)
