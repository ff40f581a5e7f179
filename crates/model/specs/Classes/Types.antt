use Rattle.std.specs.Prelude.{ℕ, zero, suc, ◌+◌, ◌-◌, ◌==◌, List, [], ◌∷◌, length, take, Bool, true, false, codes}
use Rattle.std.specs.Prelude.{is_some, Option, Some, None, if◌then◌else◌}
use Rattle.std.specs.Str.{bytes_eq}
use Rattle.model.specs.ClassListings.{ClassListing}
use Rattle.model.specs.Classes.Named.{class_named}
use Rattle.model.specs.Classes.Subclasses.{is_subclass}

-- Types that instructions name: a class by its name, an array by its descriptor (JVMS 4.4.1).

-- what an array holds: numbers of a kind, by its letter, or references to a class or an array
pub data Element : Type 0 where
  Number : (letter : ℕ) → Element
  Reference : (name : List ℕ) → Element

-- what a descriptor says: the name of a class stands between `L` and `;`
abbrev pub described : List ℕ → Option Element
described [] = None
described (b ∷ bs) =
    if b == 76 then Some (Reference (take (length bs - 1) bs)) else if b == 91 then Some (Reference (b ∷ bs))
    else Some (Number b)

-- what an array of a type holds; a class is no array
abbrev pub element_of : List ℕ → Option Element
element_of [] = None
element_of (b ∷ bs) = if b == 91 then described bs else None

-- how many dimensions an array has; a class has none
abbrev pub dimensions : List ℕ → ℕ
dimensions [] = 0
dimensions (b ∷ bs) = if b == 91 then 1 + dimensions bs else 0

abbrev pub type_is_there : Bool → (List ℕ → Bool) → Option Element → Bool
type_is_there class element None = class
type_is_there class element (Some (Number letter)) = true
type_is_there class element (Some (Reference name)) = element name

-- whether a type is there: a class that is, numbers, or an array of what is there
unfoldable pub is_there_within : ℕ → List ClassListing → List ℕ → Bool
is_there_within zero program name = false
is_there_within (suc steps) program name =
    type_is_there (is_some (class_named program name)) (λ element. is_there_within steps program element)
    (element_of name)

-- an array has fewer dimensions than its descriptor has bytes
abbrev pub is_type : List ClassListing → List ℕ → Bool
is_type program name = is_there_within (length name + 1) program name

abbrev pub types_compare : Bool → Bool → (List ℕ → List ℕ → Bool) → Option Element → Option Element → Bool
types_compare classes object elements None other = classes
types_compare classes object elements (Some element) None = object
types_compare classes object elements (Some (Number n)) (Some (Number m)) = n == m
types_compare classes object elements (Some (Number n)) (Some (Reference m)) = false
types_compare classes object elements (Some (Reference n)) (Some (Number m)) = false
types_compare classes object elements (Some (Reference n)) (Some (Reference m)) = elements n m

-- whether a type is another's subclass (JVMS 6.5, instanceof): an array is one of Object, of arrays of the same
-- numbers, and of arrays of what its elements are subclasses of
unfoldable pub is_subtype_within : ℕ → List ClassListing → List ℕ → List ℕ → Bool
is_subtype_within zero program name above = false
is_subtype_within (suc steps) program name above =
    types_compare (is_subclass program name above) (bytes_eq above (codes "java/lang/Object"))
    (λ n m. is_subtype_within steps program n m) (element_of name) (element_of above)

abbrev pub is_subtype : List ClassListing → List ℕ → List ℕ → Bool
is_subtype program name above = is_subtype_within (length name + 1) program name above
