use Rattle.std.proofs.Common.{◌≤◌, arith, length}
use Rattle.model.specs.Observers.{ideal}
use Rattle.comparison.proofs.Deciding.{agreed}
use Rattle.comparison.proofs.showing.has_threads.Goals as goal

pub returns : goal.returns
returns c =
    let threads = (ideal c.args.world.now).threads in
    let count = c.thread_count-count.ensures in
    let same = c.if-count-threads.false in
    let past = c.loop-thread-test.false in
    let end : length threads ≤ c.loop-thread.thread = omega (arith, past, count) in
    agreed threads c.args.threads.now c.loop-thread.thread (omega (arith, same, count)) end c.loop-thread.invariant
