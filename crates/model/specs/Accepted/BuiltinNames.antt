use Rattle.std.specs.Prelude.{Bool, is_some}
use Rattle.model.specs.ClassListings.{ClassListing}
use Rattle.model.specs.Classes.Named.{builtin}

-- L11: the class has the name of one of the machine's own
unfoldable pub has_builtin_name : ClassListing → Bool
has_builtin_name c = is_some (builtin c.name)
