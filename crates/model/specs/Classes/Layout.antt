use Rattle.std.specs.Prelude.{ℕ, List, [], not, map, filter, reverse, Option, Some, None}
use Rattle.std.specs.List.{flat_map}
use Rattle.model.specs.declared.listings.Field.{Field}
use Rattle.model.specs.ClassListings.{ClassListing}
use Rattle.model.specs.Classes.Flags.{is_static_field}
use Rattle.model.specs.Classes.Named.{class_named}
use Rattle.model.specs.Classes.Search.{Declared, superclasses}

abbrev pub instance_fields_in : List ℕ → Option ClassListing → List (Declared Field)
instance_fields_in name None = []
instance_fields_in name (Some c) =
    map (λ (f : Field). record { class = name; member = f }) (filter (λ (f : Field). not (is_static_field f)) c.fields)

-- the fields of an object of a class, in the order of its words: the superclass's first, each class's in file order
abbrev pub layout : List ClassListing → List ℕ → List (Declared Field)
layout program class = flat_map (λ name. instance_fields_in name (class_named program name))
    (reverse (superclasses program class))
