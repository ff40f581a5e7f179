use Rattle.std.specs.Prelude.{ℕ, zero, suc, ◌+◌, List, length, Bool, ◌||◌}
use Rattle.std.specs.List.{list_any}
use Rattle.std.specs.Str.{bytes_eq}
use Rattle.model.specs.ClassListings.{ClassListing}
use Rattle.model.specs.Classes.Named.{parents_named}

-- whether a class of this name has the other name, or one above it in so many steps at most
unfoldable pub is_within : ℕ → List ClassListing → List ℕ → List ℕ → Bool
is_within zero program name above = bytes_eq name above
is_within (suc steps) program name above =
    bytes_eq name above || list_any (λ parent. is_within steps program parent above) (parents_named program name)

-- so many steps pass every class once, the machine's own 23 too
abbrev pub enough_steps : List ClassListing → ℕ
enough_steps program = length program + 23

-- whether a class is another's subclass (JVMS 5.4.3, 6.5): the same, or below it through superclasses and
-- superinterfaces
abbrev pub is_subclass : List ClassListing → List ℕ → List ℕ → Bool
is_subclass program name above = is_within (enough_steps program) program name above
