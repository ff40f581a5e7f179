use Rattle.std.proofs.Common.{◌<◌, length, arith}
use Rattle.std.proofs.lemmas.List.{length-set}
use Rattle.plain_steps.proofs.BirthLemmas.{births_of-next, births_of-skip}
use Rattle.plain_steps.proofs.written.Written.of.Goals as goal
use Rattle.plain_steps.proofs.written.Written.of.Goals.{in-Some, in_default}

pub loop-value-preserved : goal.loop-value-preserved
loop-value-preserved c =
    elim c.match-reference.branch [
      | in-Some w ↦
          let room : c.loop-value.count < length c.loop-value.numbers = omega arith in
          rw (w.numbers-is, w.count-is) (record {
            room = rw length-set c.loop-value.invariant.room;
            within = omega arith;
            so_far = births_of-next _ _ _ _ _ _ c.loop-value-test.true room c.loop-value.invariant.so_far
                (rw w.in-Some.is at c.reference.ensures);
          })
      | in_default w ↦
          rw (w.numbers-is, w.count-is) (record {
            room = c.loop-value.invariant.room;
            within = omega arith;
            so_far = births_of-skip _ _ _ _ c.loop-value-test.true c.loop-value.invariant.so_far
                (rw w.in_default.is at c.reference.ensures);
          })
    ]
