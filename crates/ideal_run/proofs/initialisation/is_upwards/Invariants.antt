use Rattle.std.specs.List.{list_any}
use Rattle.std.specs.Str.{bytes_eq}
use Rattle.model.specs.Classes.Search.{superclasses}
use Rattle.model.specs.Classes.Subclasses.{enough_steps}
use Rattle.resolve.proofs.SpecialLemmas.{Seeks}
use Rattle.ideal_run.proofs.initialisation.is_upwards.Given as goal

abbrev pub invariant-loop : goal.invariant-loop
invariant-loop l =
    Seeks l.classes (enough_steps l.classes) l.counter l.next l.above
    (list_any (bytes_eq l.above) (superclasses l.classes l.name))
