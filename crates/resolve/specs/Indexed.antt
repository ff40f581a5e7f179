use Rattle.std.specs.Prelude.{◌≡◌, ℕ, List, map, slice_get, Option, Some}
use Rattle.std.specs.List.{All, position}
use Rattle.std.specs.Map.{lookup}
use Rattle.std.specs.Option.{option_map}
use Rattle.std.specs.Str.{bytes_eq}
use Rattle.model.specs.ClassListings.{ClassListing}
use Rattle.model.specs.Classes.Named.{listed}
use Rattle.resolve.specs.Numbers.{name_of}

-- the class under a name in a map's entries
abbrev pub found_in : {K C : Type 0} → (K → List ℕ) → (C → ClassListing) → List (K × C) → List ℕ → Option ClassListing
found_in text class entries name = option_map class (lookup (λ k. bytes_eq name (text k)) entries)

-- the entries find the first class of each name in a program, and each has the place of its class, the first with its
-- name
pub record IsIndex {K C : Type 0} (text : K → List ℕ) (class : C → ClassListing) (number : C
    → ℕ) (program : List ClassListing) (entries : List (K × C)) : Type 0 where
  pub finds : (name : List ℕ) → found_in text class entries name ≡ listed program name
  pub placed : All (λ e. slice_get program (number e.1) ≡ Some (class e.1)) entries
  pub first : All (λ e. position (bytes_eq (class e.1).name) (map name_of program) ≡ Some (number e.1)) entries
