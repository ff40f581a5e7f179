use Rattle.std.proofs.Common.{◌≡◌, ◌∙◌, ◌+◌, ◌-◌, List, ap, arith}
use Rattle.linking.specs.ClassFacts.{ClassFacts}
use Rattle.linking.specs.ClassTables.{class_tables, superclass_in}
use Rattle.model.specs.Frames.{units_of_frames}
use Rattle.model.specs.Initialisation.{initializer_frames}
use Rattle.instructions.proofs.ClaimFrames.{left-class, left-further, left-none, rest_of, units-next, units-over}
use Rattle.instructions.proofs.claims.units_of_claim.Goals as goal
use Rattle.instructions.proofs.claims.units_of_claim.Goals.{in-Some, in_default}

pub initializer_limits-max_locals-requires-clause-listed : goal.initializer_limits-max_locals-requires-clause-listed
initializer_limits-max_locals-requires-clause-listed c =
    left-class c.args.program.now c.loop.counter c.args.count c.loop.next c.loop-test.true c.loop.invariant.0
    c.in-Some.class c.in-Some.is

pub loop-preserved : goal.loop-preserved
loop-preserved c =
    elim c.match-next.branch [
      | in-Some w ↦
          let above_is : c.match-next.next ≡ superclass_in (class_tables c.args.program.now) w.in-Some.class =
          w.next-is ∙ w.superclass-next.ensures
          ∙ ap (λ (classes : List ClassFacts). superclass_in classes w.in-Some.class) w.tables.ensures.classes_are in (
            left-further c.args.program.now c.loop.counter c.args.count c.loop.next c.loop-test.true c.loop.invariant.0
                w.in-Some.class w.in-Some.is c.match-next.next above_is,
            ap (λ n. n + units_of_frames (initializer_frames c.args.program.now
                (rest_of c.args.program.now (c.args.count - (c.loop.counter + 1)) c.match-next.next))) w.units-is
                ∙ units-next c.args.program.now c.loop.counter c.args.count c.loop.next c.loop-test.true
                c.loop.invariant.0 w.in-Some.class w.in-Some.is w.initializer_limits-max_locals.result.0
                w.initializer_limits-max_locals.result.1 w.initializer_limits-max_locals.ensures c.match-next.next
                above_is
                c.loop.units _ c.loop.invariant.1,
            omega (arith, c.loop.invariant.2, w.units-is),
          )
      | in_default w ↦ absurd (left-none c.args.program.now c.loop.counter c.args.count c.loop.next c.loop-test.true
          c.loop.invariant.0 w.in_default.is)
    ]

pub returns : goal.returns
returns c =
    units-over c.args.program.now c.args.class c.args.count (c.args.count - c.loop.counter) c.loop.next c.loop.units
    (omega (arith, c.loop-test.false)) c.loop.invariant.1
