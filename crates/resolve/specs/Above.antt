use Rattle.std.specs.Prelude.{◌≡◌, ℕ, List, [], ◌∷◌}
use Rattle.model.specs.ClassListings.{ClassListing}
use Rattle.resolve.specs.Reached.{has_name, is_one_below}

-- the names of all that is above the superinterfaces that a class declares
abbrev pub IsAbove : List ClassListing → ClassListing → List (List ℕ) → Type 0
IsAbove program c names = (x : List ℕ) → has_name names x ≡ is_one_below program c.interfaces x

-- the same of each of these classes, in order
abbrev pub AreAbove : List ClassListing → List ClassListing → List (List (List ℕ)) → Type 0
AreAbove program [] [] = Unit {0}
AreAbove program [] (names ∷ more) = ⊥
AreAbove program (c ∷ cs) [] = ⊥
AreAbove program (c ∷ cs) (names ∷ more) = IsAbove program c names × AreAbove program cs more
