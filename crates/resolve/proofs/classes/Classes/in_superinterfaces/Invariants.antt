use Rattle.std.specs.List.{flat_map}
use Rattle.model.specs.Classes.Search.{first_declared, superclasses, superinterfaces}
use Rattle.model.specs.Classes.Subclasses.{enough_steps}
use Rattle.resolve.proofs.SearchLemmas.{Walks}
use Rattle.resolve.proofs.classes.Classes.in_superinterfaces.Given as goal

abbrev pub invariant-loop : goal.invariant-loop
invariant-loop g l =
    Walks l.self (g.S.Sought.of l.sought) (superinterfaces l.self) (enough_steps l.self) l.counter l.next
    (first_declared l.self (g.S.Sought.of l.sought) (flat_map (superinterfaces l.self) (superclasses l.self l.name)))
