use Rattle.std.proofs.Common.{◌-◌, ◌^◌}
use Rattle.resolve.proofs.ReachedLemmas.{IsReached}
use Rattle.resolve.proofs.reached.Reached.close.Given as goal

abbrev pub invariant-loop-next : goal.invariant-loop-next
invariant-loop-next l = IsReached l.index l.fn.self l.self l.next

abbrev pub decreases-loop-next : goal.decreases-loop-next
decreases-loop-next l = 2 ^ 63 - l.next
