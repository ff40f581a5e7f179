use Rattle.std.proofs.Common.{arith}
use Rattle.model.specs.declared.turns.Actor.TheVariants as actor
use Rattle.interleavings.proofs.Alike.{alike_before, alike_in_front}
use Rattle.interleavings.proofs.lists.advance.Goals as goal

pub returns-in-Some : goal.returns-in-Some
returns-in-Some c = alike_before c.loop-place.actors c.args.actors.now c.loop-place.place c.in-Some.actor
    (c.loop-place.invariant.1)

pub loop-place-preserved : goal.loop-place-preserved
loop-place-preserved c = (
  omega arith,
  alike_before c.loop-place.actors c.args.actors.now c.loop-place.place (actor.Thread 0)
      (c.loop-place.invariant.1),
)

pub returns : goal.returns
returns c = alike_in_front c.loop-place.actors c.args.actors.now c.loop-place.place c.args.opening
    (c.loop-place.invariant.0) (c.loop-place.invariant.1)
