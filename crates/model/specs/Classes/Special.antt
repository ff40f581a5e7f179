use Rattle.std.specs.Prelude.{ℕ, List, [], slice_get, ◌&&◌, not, Option, Some, if◌then◌else◌}
use Rattle.std.specs.List.{list_any}
use Rattle.std.specs.Option.{option_and_then, option_map_or}
use Rattle.std.specs.Str.{bytes_eq}
use Rattle.model.specs.declared.listings.Method.{Method}
use Rattle.model.specs.declared.names.Member.{Member}
use Rattle.model.specs.ClassListings.{ClassListing}
use Rattle.model.specs.Classes.Search.{Declared, superclasses}
use Rattle.model.specs.Classes.Resolution.{resolved_method, is_initializer}
use Rattle.model.specs.Classes.Selection.{selected}

-- The method that `invokespecial` calls (JVMS 6.5), which the object has no part in.

-- the direct superclass of a class of the program, by the class's place
abbrev pub superclass_at : List ClassListing → ℕ → List ℕ
superclass_at program class = option_map_or (λ (c : ClassListing). c.superclass) (slice_get program class) []

-- in code of a class that has this superclass, a method of a proper superclass is looked up from the direct superclass
-- on; any other, and an initializer, is taken as it was resolved
abbrev pub specially : List ClassListing → List ℕ → Member → Declared Method → Option (Declared Method)
specially program superclass m d =
    if not (is_initializer m.name) && list_any (bytes_eq d.class) (superclasses program superclass)
    then selected program superclass m.name m.descriptor
    else Some d

abbrev pub special_method : List ClassListing → List ℕ → Member → Option (Declared Method)
special_method program superclass m = option_and_then (specially program superclass m) (resolved_method program m)
