use Rattle.std.proofs.Common.{◌≡◌, ◌+◌, ◌++◌, length, drop}
use Rattle.hall.specs.Shares.{dealt}
use Rattle.hall.proofs.halls.deal.Given as goal

-- the shares so far, and those of the roles that are left
abbrev pub invariant-loop-worker : goal.invariant-loop-worker
invariant-loop-worker g l = record {
  parts : l.all.parts + l.worker ≡ length l.roles;
  none : l.all.amount ≡ 0;
  rest : l.shares.items ++ dealt l.burst l.worker (drop l.worker l.roles) ≡ dealt l.burst 0 l.roles;
}
