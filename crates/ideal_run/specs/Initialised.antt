use Rattle.std.specs.Prelude.{ℕ, List, Bool, ◌&&◌}
use Rattle.std.specs.List.{list_any}
use Rattle.std.specs.Str.{bytes_eq}
use Rattle.model.specs.ClassListings.{ClassListing}
use Rattle.model.specs.Classes.Search.{superclasses}
use Rattle.model.specs.Initialisation.{declares_initializer}

-- whether a class declares an initializer and is the class of a name or one of its superclasses
abbrev pub is_initialised_for : List ClassListing → List ℕ → ClassListing → Bool
is_initialised_for program name above = declares_initializer above
    && list_any (bytes_eq above.name) (superclasses program name)
