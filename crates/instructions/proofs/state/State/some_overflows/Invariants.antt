use Rattle.std.proofs.Common.{◌≡◌}
use Rattle.std.specs.List.{list_any}
use Rattle.model.specs.Observers.{is_held_by_output}
use Rattle.instructions.specs.Threads.{numbers_between}
use Rattle.instructions.proofs.state.State.some_overflows.Given as goal

abbrev pub invariant-loop-thread : goal.invariant-loop-thread
invariant-loop-thread l =
    let p = is_held_by_output l.self.program l.self.limits l.self.machine.world in
    list_any p (numbers_between 0 l.count) ≡ list_any p (numbers_between l.thread l.count)
