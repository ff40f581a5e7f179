use Rattle.std.specs.Prelude.{◌≡◌, ℕ, List}
use Rattle.std.specs.Option.{option_map}
use Rattle.model.specs.ClassListings.{ClassListing}
use Rattle.model.specs.Classes.Named.{listed}
use Rattle.model.specs.Classes.Subclasses.{enough_steps}
use Rattle.resolve.specs.Interfaces.{interfaces_once, Lists}

-- each class of a program has its superinterfaces in the order of the search, each once
abbrev pub AreSettled : List ClassListing → Lists → Type 0
AreSettled program interfaces = (name : List ℕ) → interfaces name
    ≡ option_map (interfaces_once (enough_steps program) program) (listed program name)
