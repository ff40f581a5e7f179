use Rattle.std.specs.Prelude.{◌≡◌, ℕ, List, slice_get, Bool, Option, Some, None, IfSome}
use Rattle.model.specs.declared.journals.Limits.{Limits}
use Rattle.model.specs.ClassListings.{ClassListing}
use Rattle.exploration.specs.Outcomes.{TellsOutcomes}
use Rattle.exploring.specs.declared.explored.Move.{Move}
use Rattle.exploring.specs.Explorations.{AreSoundAfter, Report, outcomes_in}
use Rattle.exploring.specs.Origins.{start_of}

-- What a report says of an exploration, and reports of its parts.

-- It tells the outcome of every run that passes through what the first moves lead to, if it wasn't cut off; and each
-- outcome is real.
pub record IsExplored (program : List ClassListing) (limits : Limits) (first : List Move) (no_room : Bool)
    (explored : Report) : Type 0 where
  pub complete : explored.cut ≡ None
      → TellsOutcomes program limits no_room (start_of program limits first) (outcomes_in explored)
  pub sound : AreSoundAfter program limits first explored.found

-- beside each part is its report, if there is one
pub record AreOfParts (program : List ClassListing) (limits : Limits) (no_room : Bool) (parts : List (List Move))
    (made : List (Option Report)) : Type 0 where
  pub reported : (k : ℕ) (p : List Move) → slice_get parts k ≡ Some p
      → (r : Option Report) × (slice_get made k ≡ Some r) × IfSome r (IsExplored program limits p no_room)
  pub of_part : (k : ℕ) (r : Option Report) → slice_get made k ≡ Some r
      → (p : List Move) × (slice_get parts k ≡ Some p) × IfSome r (IsExplored program limits p no_room)
