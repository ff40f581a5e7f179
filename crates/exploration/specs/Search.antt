use Rattle.std.specs.Prelude.{◌≡◌, ◌<◌, ◌≤◌, ◌+◌, ℕ, List, [], ◌∷◌, ◌++◌, length, slice_get, Bool, true, Some, None}
use Rattle.model.specs.declared.journals.Limits.{Limits}
use Rattle.model.specs.declared.turns.Actor.TheVariants.{Thread as ThreadActor}
use Rattle.model.specs.ClassListings.{ClassListing}
use Rattle.model.specs.Worlds.{World}
use Rattle.model.specs.Effects.Choice.{NewObject, NoRoom}
use Rattle.model.specs.Table.Next.{next, asked}
use Rattle.model.specs.Turns.{refusal}
use Rattle.exploration.specs.Reduction.{IsAheadAmong, ClosedReduced}
use Rattle.exploration.specs.Representation.{uncounted}

-- A search from a start: states are found in an order, and the first n of them were looked at.

-- each turn of a thread of the state leads into the list
pub record IsExpanded (program : List ClassListing) (limits : Limits) (no_room : Bool) (states : List World) (x : World)
    (t : ℕ) : Type 0 where
  pub turned : refusal program limits x (ThreadActor t) ≡ None
      → IsAheadAmong program states (next program x t NewObject).after
  pub without_room : no_room ≡ true → (words : ℕ) → refusal program limits x (ThreadActor t) ≡ None → asked program x t ≡ Some words
      → IsAheadAmong program states (next program x t NoRoom).after

pub record ClosedBelow (program : List ClassListing) (limits : Limits) (no_room : Bool) (start : World)
    (states : List World) (n : ℕ) : Type 0 where
  pub opening : IsAheadAmong program states (uncounted start)
  pub expanded : (k : ℕ) (x : World) (t : ℕ) → k < n → slice_get states k ≡ Some x
      → IsExpanded program limits no_room states x t

-- what a loop over the states needs: it keeps what holds below n where a state is found, goes on to n + 1 where state n
-- is expanded, and ends where all are
pub record Searches (program : List ClassListing) (limits : Limits) (no_room : Bool) (start : World) : Type 0 where
  pub found : (states : List World) (n : ℕ) (x : World) → n ≤ length states → ClosedBelow program limits no_room start states n
      → ClosedBelow program limits no_room start (states ++ x ∷ []) n
  pub kept : (states : List World) (x y : World) (t : ℕ) → IsExpanded program limits no_room states x t
      → IsExpanded program limits no_room (states ++ y ∷ []) x t
  pub looked_at : (states : List World) (n : ℕ) (x : World) → slice_get states n ≡ Some x
      → ((t : ℕ) → IsExpanded program limits no_room states x t) → ClosedBelow program limits no_room start states n
      → ClosedBelow program limits no_room start states (n + 1)
  pub ends : (states : List World) → ClosedBelow program limits no_room start states (length states)
      → ClosedReduced program limits no_room start states

abbrev pub SearchesAll : Type 0
SearchesAll = (program : List ClassListing) (limits : Limits) (no_room : Bool) (start : World)
    → Searches program limits no_room start
