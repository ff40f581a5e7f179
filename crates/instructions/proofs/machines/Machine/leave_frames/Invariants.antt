use Rattle.std.proofs.Common.{◌-◌}
use Rattle.instructions.proofs.LeavingLemmas.{RestLeaves}
use Rattle.instructions.proofs.machines.Machine.leave_frames.Given as goal

abbrev pub invariant-loop : goal.invariant-loop
invariant-loop l = RestLeaves l.program l.fn.self l.self l.count (l.count - l.counter)
