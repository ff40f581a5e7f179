use Rattle.std.specs.Prelude.{◌≡◌, ℕ, List, Some, None, codes}
use Rattle.model.specs.ClassListings.{ClassListing}
use Rattle.model.specs.Classes.Subclass.{Subclass}
use Rattle.model.specs.Classes.Types.{Element, element_of}
use Rattle.model.specs.Classes.Types.Element.{Number, Reference}

-- what a type is a subclass of (JVMS 6.5, instanceof): the least relation that has the classes above a class, the pairs
-- of an array and Object, of arrays of the same numbers, and of arrays of what it has
pub data Subtype (program : List ClassListing) : List ℕ → List ℕ → Type 0 where
  classes : {name above : List ℕ} → element_of name ≡ None → Subclass program name above → Subtype program name above
  object : {name : List ℕ} (element : Element) → element_of name ≡ Some element
      → Subtype program name (codes "java/lang/Object")
  numbers : {name above : List ℕ} (letter : ℕ) → element_of name ≡ Some (Number letter)
      → element_of above ≡ Some (Number letter) → Subtype program name above
  arrays : {name above : List ℕ} (element other : List ℕ) → element_of name ≡ Some (Reference element)
      → element_of above ≡ Some (Reference other) → Subtype program element other → Subtype program name above
