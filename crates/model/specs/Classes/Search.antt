use Rattle.std.specs.Prelude.{ℕ, zero, suc, List, [], ◌∷◌, ◌++◌, Option, Some, None}
use Rattle.std.specs.List.{flat_map}
use Rattle.std.specs.Option.{option_map}
use Rattle.model.specs.ClassListings.{ClassListing}
use Rattle.model.specs.Classes.Named.{class_named, or_else}
use Rattle.model.specs.Classes.Subclasses.{enough_steps}

-- The orders in which members are sought. Names of classes that aren't there are in no order.

abbrev pub interfaces_in : Option ClassListing → List (List ℕ)
interfaces_in None = []
interfaces_in (Some c) = c.interfaces

-- the superinterfaces that the class of a name declares, in file order
abbrev pub interfaces_named : List ClassListing → List ℕ → List (List ℕ)
interfaces_named program name = interfaces_in (class_named program name)

abbrev pub with_superclasses : List ℕ → (List ℕ → List (List ℕ)) → Option ClassListing → List (List ℕ)
with_superclasses name above None = []
with_superclasses name above (Some c) = name ∷ above c.superclass

-- the name of a class, and those of its superclasses from the nearest on
unfoldable pub upwards : ℕ → List ClassListing → List ℕ → List (List ℕ)
upwards zero program name = []
upwards (suc steps) program name = with_superclasses name (λ superclass. upwards steps program superclass)
    (class_named program name)

abbrev pub superclasses : List ClassListing → List ℕ → List (List ℕ)
superclasses program name = upwards (enough_steps program) program name

-- these interfaces in order, each with its own superinterfaces before the next
unfoldable pub interfaces_from : ℕ → List ClassListing → List (List ℕ) → List (List ℕ)
interfaces_from zero program names = []
interfaces_from (suc steps) program names =
    flat_map (λ name. name ∷ interfaces_from steps program (interfaces_named program name)) names

-- all superinterfaces of the class of a name, but for those of its superclasses
abbrev pub superinterfaces : List ClassListing → List ℕ → List (List ℕ)
superinterfaces program name = interfaces_from (enough_steps program) program (interfaces_named program name)

-- where a field is sought (JVMS 5.4.3.2): in the class, its superinterfaces, and then in the same way from the
-- superclass on
abbrev pub field_order : List ClassListing → List ℕ → List (List ℕ)
field_order program name = flat_map (λ class. class ∷ superinterfaces program class) (superclasses program name)

-- where a method is sought (JVMS 5.4.3.3): in the class, its superclasses, and then in the superinterfaces of each
abbrev pub method_order : List ClassListing → List ℕ → List (List ℕ)
method_order program name = superclasses program name ++ flat_map (superinterfaces program) (superclasses program name)

-- a member, and the name of the class that declares it
pub record Declared (Member : Type 0) : Type 0 where
  pub class : List ℕ
  pub member : Member

abbrev pub declared_in : {Member : Type 0} → (ClassListing → Option Member) → List ℕ → Option ClassListing
    → Option (Declared Member)
declared_in member name None = None
declared_in member name (Some c) = option_map (λ m. record { class = name; member = m }) (member c)

-- the first of these classes that has such a member
abbrev pub first_declared : {Member : Type 0} → List ClassListing → (ClassListing → Option Member) → List (List ℕ)
    → Option (Declared Member)
first_declared program member [] = None
first_declared program member (name ∷ names) =
    or_else (declared_in member name (class_named program name)) (first_declared program member names)
