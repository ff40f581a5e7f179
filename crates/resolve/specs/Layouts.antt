use Rattle.std.specs.Prelude.{ℕ, List, map, filter, not, reverse}
use Rattle.model.specs.declared.listings.Field.{Field}
use Rattle.model.specs.ClassListings.{ClassListing}
use Rattle.model.specs.Classes.Flags.{is_static_field}
use Rattle.model.specs.Classes.Layout.{instance_fields_in}
use Rattle.model.specs.Classes.Named.{class_named}
use Rattle.model.specs.Classes.Search.{Declared}

-- those of a class's fields that its objects have
abbrev pub fields_in : List ℕ → List Field → List (Declared Field)
fields_in name fields = map (λ (f : Field). record { class = name; member = f })
    (filter (λ (f : Field). not (is_static_field f)) fields)

-- those of the class of a name, the last one first
abbrev pub fields_last_first : List ClassListing → List ℕ → List (Declared Field)
fields_last_first program name = reverse (instance_fields_in name (class_named program name))
