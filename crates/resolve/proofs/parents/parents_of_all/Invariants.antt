use Rattle.std.proofs.Common.{◌≡◌, ◌++◌, drop}
use Rattle.resolve.specs.Parents.{all_parents}
use Rattle.resolve.proofs.parents.parents_of_all.Given as goal

abbrev pub invariant-loop-class : goal.invariant-loop-class
invariant-loop-class l = l.parents.items ++ all_parents (drop l.class-index l.program) ≡ all_parents l.program
