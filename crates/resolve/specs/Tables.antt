use Rattle.std.specs.Prelude.{◌≡◌, ℕ, List}
use Rattle.std.specs.Option.{option_map}
use Rattle.model.specs.ClassListings.{ClassListing}
use Rattle.model.specs.Classes.Builtin.{builtin_classes}
use Rattle.model.specs.Classes.Named.{listed}
use Rattle.model.specs.Classes.Subclasses.{enough_steps}
use Rattle.resolve.specs.Above.{AreAbove}
use Rattle.resolve.specs.Interfaces.{interfaces_once, Lists}

-- the machine's own classes; the members of each class of a program; for each class of a program its superinterfaces in
-- the order of the search, each once; and what is above the superinterfaces that each declares
pub record AreTables (program own members : List ClassListing) (interfaces : Lists)
    (above : List (List (List ℕ))) : Type 0 where
  pub own_is : own ≡ builtin_classes
  pub members_are : members ≡ program
  pub interfaces_are : (name : List ℕ) → interfaces name ≡ option_map (interfaces_once (enough_steps program) program)
      (listed program name)
  pub above_is : AreAbove program program above
