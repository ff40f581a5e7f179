use Rattle.std.specs.Prelude.{◌≡◌, ◌<◌, ℕ, suc, List, map, slice_get, Some, None}
use Rattle.model.specs.ClassListings.{ClassListing}
use Rattle.model.specs.Effects.{Choice}
use Rattle.model.specs.Table.Next.{next}
use Rattle.join.specs.OnCells.{on_cells}
use Rattle.exploration.specs.Representation.{Represents}
use Rattle.model.specs.declared.colours.Cell.{Cell}
use Rattle.model.specs.declared.colours.Cell.TheVariants.{Taken}
use Rattle.model.specs.declared.colours.Colour.TheVariants.{White}
use Rattle.model.specs.Worlds.{World, next_birth}
use Rattle.model.specs.Collector.Places.{Reach}
use Rattle.join.specs.Naming.{Naming}

-- Canonical forms: all that paths reach gets new births, in the order of a list.

-- a cell for each birth, in that order
abbrev pub taken : List ℕ → List Cell
taken order = map (λ b. Taken b White) order

-- all that paths reach is in the list, and nothing else is; each birth is named by its place and one more
pub record Lists (h : Naming) (order : List ℕ) (w : World) : Type 0 where
  pub numbered : (k b : ℕ) → slice_get order k ≡ Some b → h b ≡ suc k
  pub complete : (b : ℕ) → Reach w b → (k : ℕ) × (slice_get order k ≡ Some b)
  pub only : (k b : ℕ) → slice_get order k ≡ Some b → Reach w b
  pub memory_error : slice_get order 0 ≡ Some 1
  pub stack_error : slice_get order 1 ≡ Some 2

-- every birth that a path reaches was made
abbrev pub AllMade : World → Type 0
AllMade w = (b : ℕ) → Reach w b → b < next_birth w

-- the image by such a list represents the world
abbrev pub CanonicalRepresents : Type 0
CanonicalRepresents = (h : Naming) (order : List ℕ) (w : World) → Lists h order w → AllMade w
    → Represents (on_cells h (taken order) w) w

-- in a turn of what represents a world, whatever paths reach was made
abbrev pub TurnsMakeAll : Type 0
TurnsMakeAll = (program : List ClassListing) (x w : World) (t : ℕ) (choice : Choice) → Represents x w → w.fault ≡ None
    → AllMade (next program x t choice).after
