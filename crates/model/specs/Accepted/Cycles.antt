use Rattle.std.specs.Prelude.{List, Bool}
use Rattle.std.specs.List.{list_any}
use Rattle.model.specs.ClassListings.{ClassListing}
use Rattle.model.specs.Classes.Named.{parents_of}
use Rattle.model.specs.Classes.Subclasses.{is_subclass}

-- L3: a superclass or superinterface of the class is the class itself or below it
unfoldable pub is_on_cycle : List ClassListing → ClassListing → Bool
is_on_cycle program c = list_any (λ parent. is_subclass program parent c.name) (parents_of c)
