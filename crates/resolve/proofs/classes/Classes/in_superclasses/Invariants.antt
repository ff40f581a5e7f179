use Rattle.std.proofs.Common.{◌∷◌, [], ℕ, List}
use Rattle.model.specs.Classes.Search.{first_declared, superclasses}
use Rattle.model.specs.Classes.Subclasses.{enough_steps}
use Rattle.resolve.proofs.SearchLemmas.{Walks}
use Rattle.resolve.proofs.classes.Classes.in_superclasses.Given as goal

abbrev pub invariant-loop : goal.invariant-loop
invariant-loop g l =
    Walks l.self (g.S.Sought.of l.sought) (λ (name : List ℕ). name ∷ []) (enough_steps l.self) l.counter l.next
    (first_declared l.self (g.S.Sought.of l.sought) (superclasses l.self l.name))
