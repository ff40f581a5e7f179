use Rattle.std.proofs.Common.{take}
use Rattle.resolve.specs.Members.{VirtualsAre}
use Rattle.resolve.proofs.members.first_virtuals.Given as goal

abbrev pub invariant-loop-method : goal.invariant-loop-method
invariant-loop-method l = VirtualsAre (take l.method-index l.methods) l.found.members.entries
