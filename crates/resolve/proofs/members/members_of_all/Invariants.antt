use Rattle.std.proofs.Common.{◌≡◌, ◌++◌, drop}
use Rattle.resolve.proofs.members.members_of_all.Given as goal

abbrev pub invariant-loop-class : goal.invariant-loop-class
invariant-loop-class l = l.members.items ++ drop l.class-index l.program ≡ l.program
