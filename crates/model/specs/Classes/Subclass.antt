use Rattle.std.specs.Prelude.{◌≡◌, ◌⊎◌, ℕ, List, [], ◌∷◌}
use Rattle.model.specs.ClassListings.{ClassListing}
use Rattle.model.specs.Classes.Named.{parents_named}

-- a name among names
abbrev pub HasName : List (List ℕ) → List ℕ → Type 0
HasName [] name = ⊥
HasName (x ∷ xs) name = (x ≡ name) ⊎ HasName xs name

-- what a class is a subclass of: the least reflexive and transitive relation that has the pairs of a class and its
-- superclass, and of a class and its superinterfaces
pub data Subclass (program : List ClassListing) : List ℕ → List ℕ → Type 0 where
  same : {name : List ℕ} → Subclass program name name
  parent : {name above : List ℕ} → HasName (parents_named program name) above → Subclass program name above
  through : {name above : List ℕ} (middle : List ℕ) → Subclass program name middle → Subclass program middle above
      → Subclass program name above
