use Rattle.std.proofs.Common.{◌≡◌, ◌-◌}
use Rattle.std.specs.List.{list_any}
use Rattle.model.specs.Classes.Search.{superclasses, upwards}
use Rattle.model.specs.Classes.Subclasses.{enough_steps}
use Rattle.linking.specs.Initializers.{declares_named}
use Rattle.linking.proofs.initializers.is_declared_upwards.Given as goal

-- none so far declares one, so that the rest decides
abbrev pub invariant-loop : goal.invariant-loop
invariant-loop l =
    list_any (declares_named l.declarers) (upwards (enough_steps l.classes - l.counter) l.classes l.next)
    ≡ list_any (declares_named l.declarers) (superclasses l.classes l.name)
