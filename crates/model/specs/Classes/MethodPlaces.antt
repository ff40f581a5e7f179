use Rattle.std.specs.Prelude.{ℕ, List, Bool, ◌&&◌, slice_get, position, Option}
use Rattle.std.specs.Option.{option_map, option_and_then}
use Rattle.std.specs.Str.{bytes_eq}
use Rattle.model.specs.declared.listings.Method.{Method}
use Rattle.model.specs.declared.names.Member.{Member}
use Rattle.model.specs.declared.places.MethodPlace.{MethodPlace}
use Rattle.model.specs.ClassListings.{ClassListing}
use Rattle.model.specs.Classes.Named.{is_named}
use Rattle.model.specs.Classes.Search.{Declared}

-- Declared methods by name and by place.

-- a class declares no two methods of one name and descriptor
abbrev pub is_method : List ℕ → List ℕ → Method → Bool
is_method name descriptor m = bytes_eq m.name name && bytes_eq m.descriptor descriptor

-- where a class of the program has the method
abbrev pub place_in : List ClassListing → Declared Method → ℕ → Option MethodPlace
place_in program d class =
    option_and_then (λ (c : ClassListing). option_map (λ (n : ℕ). record { class = class; method = n })
    (position (is_method d.member.name d.member.descriptor) c.methods))
    (slice_get program class)

-- the place of a method that a class of the program declares; the machine's own methods have none
abbrev pub place_of : List ClassListing → Declared Method → Option MethodPlace
place_of program d = option_and_then (place_in program d) (position (is_named d.class) program)

-- the reference that names a method by the class that declares it
abbrev pub member_of : Declared Method → Member
member_of d = record { class = d.class; name = d.member.name; descriptor = d.member.descriptor }
