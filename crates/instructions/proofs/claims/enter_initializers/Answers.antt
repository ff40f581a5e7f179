use Rattle.std.proofs.Common.{◌≡◌, ◌∙◌, List, ap, refl}
use Rattle.linking.specs.ClassFacts.{ClassFacts}
use Rattle.linking.specs.ClassTables.{class_tables, superclass_in}
use Rattle.instructions.proofs.ClaimFrames.{enters-last, enters-more, has-room, left-class, left-further, left-none}
use Rattle.instructions.proofs.ClaimFrames.{placed-at}
use Rattle.instructions.proofs.claims.enter_initializers.Goals as goal
use Rattle.instructions.proofs.claims.enter_initializers.Goals.{in-Some, then-passed-count, else-passed-count}
use Rattle.instructions.proofs.claims.enter_initializers.Goals.{in_default}

pub initializer_limits-max_locals-requires-clause-listed : goal.initializer_limits-max_locals-requires-clause-listed
initializer_limits-max_locals-requires-clause-listed c =
    left-class c.args.program.now c.loop-passed.passed c.args.count c.loop-passed.next c.loop-passed-test.true
    c.loop-passed.invariant.0 c.in-Some.class c.in-Some.is

pub enter-requires : goal.enter-requires
enter-requires c =
    has-room c.args.program.now c.loop-passed.passed c.args.count c.loop-passed.next c.loop-passed-test.true
    c.loop-passed.invariant.0 c.in-Some.class c.in-Some.is c.initializer_limits-max_locals.result.0
    c.initializer_limits-max_locals.result.1 c.initializer_limits-max_locals.ensures
    (superclass_in (class_tables c.args.program.now) c.in-Some.class) refl c.requires.accepted c.loop-passed.frames _
    c.loop-passed.invariant.1 c.requires.room

pub loop-passed-preserved : goal.loop-passed-preserved
loop-passed-preserved c =
    elim c.match-next.branch [
      | in-Some w ↦
          let above_is : c.match-next.next ≡ superclass_in (class_tables c.args.program.now) w.in-Some.class =
          w.next-is ∙ w.superclass-next.ensures
          ∙ ap (λ (classes : List ClassFacts). superclass_in classes w.in-Some.class)
          w.tables-in-Some.ensures.classes_are in
          let further =
          left-further c.args.program.now c.loop-passed.passed c.args.count c.loop-passed.next c.loop-passed-test.true
          c.loop-passed.invariant.0 w.in-Some.class w.in-Some.is c.match-next.next above_is in
          let placed =
          placed-at c.args.program.now w.in-Some.class w.tables.result.now.initializers w.initializer-place.result
          w.initializer-place.ensures w.tables.ensures.initializers_are in
          elim w.if-passed-count.branch [
            | then-passed-count w2 ↦ (
              further,
              enters-more c.args.program.now c.loop-passed.passed c.args.count c.loop-passed.next
                  c.loop-passed-test.true c.loop-passed.invariant.0 w.in-Some.class w.in-Some.is
                  w.initializer_limits-max_locals.result.0 w.initializer_limits-max_locals.result.1
                  w.initializer_limits-max_locals.ensures c.match-next.next above_is c.requires.accepted
                  c.loop-passed.frames _ c.loop-passed.invariant.1 w.initializer-place.result placed w.enter.new.self
                  c.match-next.frames w.enter.ensures (w.frames-is ∙ w2.frames-is ∙ w2.set_mark.ensures)
                  w2.if-passed-count.true,
            )
            | else-passed-count w2 ↦ (
              further,
              enters-last c.args.program.now c.loop-passed.passed c.args.count c.loop-passed.next
                  c.loop-passed-test.true c.loop-passed.invariant.0 w.in-Some.class w.in-Some.is
                  w.initializer_limits-max_locals.result.0 w.initializer_limits-max_locals.result.1
                  w.initializer_limits-max_locals.ensures c.match-next.next above_is c.requires.accepted
                  c.loop-passed.frames _ c.loop-passed.invariant.1 w.initializer-place.result placed
                  c.match-next.frames (w.frames-is ∙ w2.frames-is ∙ w.enter.ensures) w2.if-passed-count.false,
            )
          ]
      | in_default w ↦
          absurd (left-none c.args.program.now c.loop-passed.passed c.args.count c.loop-passed.next
          c.loop-passed-test.true
          c.loop-passed.invariant.0 w.in_default.is)
    ]
