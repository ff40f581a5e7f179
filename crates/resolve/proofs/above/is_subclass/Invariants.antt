use Rattle.model.specs.Classes.Subclasses.{enough_steps}
use Rattle.resolve.proofs.SubclassLemmas.{IsWalked}
use Rattle.resolve.proofs.above.is_subclass.Given as goal

abbrev pub invariant-loop : goal.invariant-loop
invariant-loop l = IsWalked l.index l.name l.above (enough_steps l.index) l.counter l.next
