use Rattle.std.specs.Prelude.{ℕ, List, [], map}
use Rattle.model.specs.ClassListings.{ClassListing}
use Rattle.model.specs.Classes.Named.{parents_of}
use Rattle.resolve.specs.Reached.{with_names}

-- the superclass and the superinterfaces of a class, each once
abbrev pub parents_once : ClassListing → List (List ℕ)
parents_once c = with_names [] (parents_of c)

-- those of each class of a program
abbrev pub all_parents : List ClassListing → List (List (List ℕ))
all_parents program = map parents_once program
