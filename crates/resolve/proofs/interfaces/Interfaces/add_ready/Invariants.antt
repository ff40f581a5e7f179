use Rattle.resolve.specs.Interfaces.{AreLists, lists_in}
use Rattle.resolve.proofs.interfaces.Interfaces.add_ready.Given as goal

abbrev pub invariant-loop-name : goal.invariant-loop-name
invariant-loop-name l = AreLists l.index (lists_in l.self.lists.entries)
