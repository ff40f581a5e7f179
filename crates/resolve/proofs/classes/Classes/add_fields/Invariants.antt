use Rattle.std.proofs.Common.{◌++◌}
use Rattle.std.specs.List.{flat_map}
use Rattle.model.specs.Classes.Search.{superclasses}
use Rattle.model.specs.Classes.Subclasses.{enough_steps}
use Rattle.resolve.specs.Layouts.{fields_last_first}
use Rattle.resolve.proofs.LayoutLemmas.{Gathers}
use Rattle.resolve.proofs.classes.Classes.add_fields.Given as goal

abbrev pub invariant-loop : goal.invariant-loop
invariant-loop l =
    Gathers l.self (enough_steps l.self) l.counter l.next l.fields.items
    (l.fn.fields.items ++ flat_map (fields_last_first l.self) (superclasses l.self l.name))
