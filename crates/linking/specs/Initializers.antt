use Rattle.std.specs.Prelude.{◌≡◌, ℕ, List, map, slice_get, Bool, ◌&&◌, false, Option, Some, None}
use Rattle.std.specs.List.{list_any}
use Rattle.std.specs.Str.{bytes_eq}
use Rattle.model.specs.declared.places.MethodPlace.{MethodPlace}
use Rattle.model.specs.ClassListings.{ClassListing}
use Rattle.model.specs.Initialisation.{declares_initializer, initializer_in, wants_initialising}
use Rattle.resolve.specs.declared.keys.NameKey.{NameKey}
use Rattle.linking.specs.declared.initializers.ClassInitializer.{ClassInitializer}

-- ---- the initializer of each class of a program, and whether the class wants initialising

abbrev pub class_initializer : List ClassListing → ClassListing → ClassInitializer
class_initializer program c = record { method = initializer_in (Some c); is_wanted = wants_initialising program c }

abbrev pub initializers : List ClassListing → List ClassInitializer
initializers program = map (class_initializer program) program

abbrev pub method_if : Option ClassInitializer → ℕ
method_if None = 0
method_if (Some i) = i.method

abbrev pub place_in : List ClassInitializer → ℕ → MethodPlace
place_in table class = record { class = class; method = method_if (slice_get table class) }

abbrev pub wanted_if : Option ClassInitializer → Bool
wanted_if None = false
wanted_if (Some i) = i.is_wanted

abbrev pub is_wanted_in : List ClassInitializer → ℕ → Bool
is_wanted_in table class = wanted_if (slice_get table class)

-- ---- which names are those of classes that declare an initializer

abbrev pub declares_named : List ClassListing → List ℕ → Bool
declares_named program name = list_any (λ (c : ClassListing). declares_initializer c && bytes_eq c.name name) program

-- the names are those of a program's classes that declare an initializer
abbrev pub AreDeclarers : List ClassListing → List NameKey → Type 0
AreDeclarers program names =
    (name : NameKey) → list_any (λ k. bytes_eq name.bytes.now k.bytes.now) names ≡ declares_named program name.bytes.now
