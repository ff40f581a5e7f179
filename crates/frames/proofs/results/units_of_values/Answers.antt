use Rattle.std.proofs.Common.{arith, pos, slice_index_or}
use Rattle.model.specs.declared.values.Value.TheVariants.{Int}
use Rattle.frames.proofs.StackLemmas.{units_of-le}
use Rattle.frames.proofs.PushLemmas.{units_of_all-take_at}
use Rattle.frames.proofs.results.units_of_values.Goals as goal

pub loop-value-preserved : goal.loop-value-preserved
loop-value-preserved c =
    let more = units_of_all-take_at c.args.values.now c.loop-value.value-index (Int (pos 0)) c.loop-value-test.true in
    let small = units_of-le (slice_index_or c.args.values.now c.loop-value.value-index (Int (pos 0))) in
    (omega arith, omega arith)
