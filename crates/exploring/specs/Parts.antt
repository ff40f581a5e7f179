use Rattle.std.specs.Prelude.{◌≡◌, ℕ, List, map, slice_get, Bool, Some}
use Rattle.model.specs.declared.journals.Limits.{Limits}
use Rattle.model.specs.ClassListings.{ClassListing}
use Rattle.exploration.specs.Observations.{Observed}
use Rattle.exploration.specs.Outcomes.{TellsOutcomes}
use Rattle.exploring.specs.declared.explored.Move.{Move}
use Rattle.exploring.specs.Expansion.{Search, way_to}
use Rattle.exploring.specs.Explorations.{BeginsWith, Finding}
use Rattle.exploring.specs.Origins.{AreTurns, start_of}

-- Parts of an exploration: turns by which to begin, so that what can follow any of them is all.

abbrev pub moves_of : Finding → List Move
moves_of f = f.moves

-- the runs that came to rest
abbrev pub rests : List Finding → List (List Move)
rests found = map moves_of found

-- those that led to the states that wait
abbrev pub ways : List Move → Search → List (List Move)
ways first s = map (way_to first s.origins) s.waiting

-- Each part is the turns of a run that begins with those that came first. Outcomes that tell all that follows each of
-- the parts tell all that follows the first turns.
pub record AreParts (program : List ClassListing) (limits : Limits) (first : List Move) (no_room : Bool)
    (parts : List (List Move)) : Type 0 where
  pub turns : (k : ℕ) (p : List Move) → slice_get parts k ≡ Some p → AreTurns program limits p
  pub begin : (k : ℕ) (p : List Move) → slice_get parts k ≡ Some p → BeginsWith first p
  pub whole : (outcomes : List Observed)
      → ((k : ℕ) (p : List Move) → slice_get parts k ≡ Some p
      → TellsOutcomes program limits no_room (start_of program limits p) outcomes)
      → TellsOutcomes program limits no_room (start_of program limits first) outcomes
