use Rattle.std.specs.List.{list_any}
use Rattle.std.specs.Str.{bytes_eq}
use Rattle.model.specs.Classes.Search.{superclasses}
use Rattle.model.specs.Classes.Subclasses.{enough_steps}
use Rattle.resolve.proofs.SpecialLemmas.{Seeks}
use Rattle.resolve.proofs.classes.Classes.is_upwards.Given as goal

abbrev pub invariant-loop : goal.invariant-loop
invariant-loop l =
    Seeks l.self (enough_steps l.self) l.counter l.next l.above
    (list_any (bytes_eq l.above) (superclasses l.self l.name))
