use Rattle.std.specs.Prelude.{ℕ, List, map, filter, None}
use Rattle.std.specs.List.{flat_map}
use Rattle.model.specs.declared.listings.Field.{Field}
use Rattle.model.specs.declared.values.Value.TheVariants.{Ref}
use Rattle.model.specs.ClassListings.{ClassListing}
use Rattle.model.specs.Classes.Flags.{is_static_field}
use Rattle.model.specs.Worlds.{FieldValue}

-- The static fields of a program by their names, in class and field order.

-- a static field that holds null
abbrev pub static_key : List ℕ → Field → FieldValue
static_key class f = record { class = class; name = f.name; descriptor = f.descriptor; value = Ref None }

abbrev pub keys_of : List ℕ → List Field → List FieldValue
keys_of class fields = map (static_key class) (filter is_static_field fields)

abbrev pub static_keys : List ClassListing → List FieldValue
static_keys program = flat_map (λ (c : ClassListing). keys_of c.name c.fields) program
