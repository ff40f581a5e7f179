use Rattle.std.specs.Prelude.{◌≡◌, List, Option, Some, None}
use Rattle.std.specs.List.{find}
use Rattle.model.specs.ClassListings.{ClassListing}
use Rattle.model.specs.Accepted.Cycles.{is_on_cycle}
use Rattle.model.specs.Accepted.Superclasses.{has_missing_parent}

-- each class has its superclass and its superinterfaces, and none is on a cycle
abbrev pub IsHierarchy : List ClassListing → Type 0
IsHierarchy program = (find (has_missing_parent program) program ≡ None) × (find (is_on_cycle program) program ≡ None)

-- the classes that are made of a program: none where it is no hierarchy
abbrev pub AreMade : List ClassListing → Option (List ClassListing) → Type 0
AreMade program None = IsHierarchy program → ⊥
AreMade program (Some classes) = (classes ≡ program) × IsHierarchy program
