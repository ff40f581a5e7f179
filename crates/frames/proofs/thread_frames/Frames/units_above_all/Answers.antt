use Rattle.std.proofs.Common.{arith}
use Rattle.model.specs.Frames.{running_frame}
use Rattle.frames.proofs.StackLemmas.{units_of_all-take_more, units_of-le}
use Rattle.values.specs.Slots.{value_of}
use Rattle.frames.proofs.thread_frames.Frames.units_above_all.Goals as goal

pub overflow_add-units : goal.overflow_add-units
overflow_add-units c =
    let small = units_of-le (value_of c.held.result) in
    omega arith

pub loop-above-preserved : goal.loop-above-preserved
loop-above-preserved c =
    let small = units_of-le (value_of c.held.result) in
    let more = units_of_all-take_more (running_frame c.args.self.now).stack c.loop-above.above (value_of c.held.result)
    c.held.ensures in
    (omega arith, omega arith)
