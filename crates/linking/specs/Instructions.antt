use Rattle.std.specs.Prelude.{List, [], Option, Some, None}
use Rattle.model.specs.declared.listings.Placed.{Placed}
use Rattle.model.specs.CodeListings.{CodeListing}

-- the instructions of a method, none where it has no code
abbrev pub instructions_in : Option CodeListing → List Placed
instructions_in None = []
instructions_in (Some code) = code.instructions
