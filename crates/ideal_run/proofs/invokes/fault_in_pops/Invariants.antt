use Rattle.std.proofs.Common.{◌≡◌, drop}
use Rattle.model.specs.Table.Invokes.{fault_in_pops}
use Rattle.ideal_run.proofs.invokes.fault_in_pops.Given as goal

-- the pops that are left, on what is left of the stack
abbrev pub invariant-loop-kind : goal.invariant-loop-kind
invariant-loop-kind l = fault_in_pops l.kinds l.stack ≡ fault_in_pops (drop l.kind-index l.kinds) l.rest
