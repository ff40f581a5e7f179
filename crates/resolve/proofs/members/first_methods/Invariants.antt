use Rattle.std.proofs.Common.{take}
use Rattle.resolve.specs.Members.{MethodsAre}
use Rattle.resolve.proofs.members.first_methods.Given as goal

abbrev pub invariant-loop-method : goal.invariant-loop-method
invariant-loop-method l = MethodsAre (take l.method-index l.methods) l.found.members.entries
