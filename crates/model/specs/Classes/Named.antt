use Rattle.std.specs.Prelude.{ℕ, List, [], ◌∷◌, Bool, Option, Some, None}
use Rattle.std.specs.List.{find}
use Rattle.std.specs.Str.{bytes_eq}
use Rattle.model.specs.ClassListings.{ClassListing}
use Rattle.model.specs.Classes.Builtin.{builtin_classes}

abbrev pub is_named : List ℕ → ClassListing → Bool
is_named name c = bytes_eq c.name name

-- a class of the program by its name
abbrev pub listed : List ClassListing → List ℕ → Option ClassListing
listed program name = find (is_named name) program

-- one of the machine's own classes by its name
abbrev pub builtin : List ℕ → Option ClassListing
builtin name = find (is_named name) builtin_classes

abbrev pub or_else : {A : Type 0} → Option A → Option A → Option A
or_else None second = second
or_else (Some x) second = Some x

-- the class of a name: the program's, or the machine's own
abbrev pub class_named : List ClassListing → List ℕ → Option ClassListing
class_named program name = or_else (listed program name) (builtin name)

-- the names of a class's superclass and superinterfaces, in this order
abbrev pub parents_of : ClassListing → List (List ℕ)
parents_of c = c.superclass ∷ c.interfaces

abbrev pub parents_in : Option ClassListing → List (List ℕ)
parents_in None = []
parents_in (Some c) = parents_of c

abbrev pub superclass_in : Option ClassListing → List ℕ
superclass_in None = []
superclass_in (Some c) = c.superclass

-- the parents of the class of a name
abbrev pub parents_named : List ClassListing → List ℕ → List (List ℕ)
parents_named program name = parents_in (class_named program name)
