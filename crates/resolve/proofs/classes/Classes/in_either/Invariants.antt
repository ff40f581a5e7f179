use Rattle.std.proofs.Common.{◌∷◌, ℕ, List}
use Rattle.model.specs.Classes.Search.{field_order, first_declared, superinterfaces}
use Rattle.model.specs.Classes.Subclasses.{enough_steps}
use Rattle.resolve.proofs.SearchLemmas.{Walks}
use Rattle.resolve.proofs.classes.Classes.in_either.Given as goal

abbrev pub invariant-loop : goal.invariant-loop
invariant-loop g l =
    Walks l.self (g.S.Sought.of l.sought) (λ (name : List ℕ). name ∷ superinterfaces l.self name) (enough_steps l.self)
    l.counter l.next
    (first_declared l.self (g.S.Sought.of l.sought) (field_order l.self l.name))
