use Rattle.std.proofs.Common.{◌≡◌}
use Rattle.std.specs.List.{find}
use Rattle.model.specs.Ready.{is_ready}
use Rattle.instructions.specs.Threads.{numbers_between}
use Rattle.instructions.proofs.state.State.ready_among.Given as goal

abbrev pub invariant-loop-thread : goal.invariant-loop-thread
invariant-loop-thread l =
    let p = is_ready l.self.program l.self.machine.world in
    find p (numbers_between l.from l.to) ≡ find p (numbers_between l.thread l.to)
