use Rattle.resolve.specs.Interfaces.{AreLists, lists_in, missing}
use Rattle.resolve.proofs.interfaces.Interfaces.add_rest.Given as goal

abbrev pub invariant-loop-class : goal.invariant-loop-class
invariant-loop-class l = AreLists l.index (lists_in l.self.lists.entries)

abbrev pub decreases-loop-class : goal.decreases-loop-class
decreases-loop-class l = missing l.index (lists_in l.self.lists.entries)
