use Rattle.std.specs.Prelude.{◌≡◌, ◌<◌, ◌≤◌, ◌+◌, ℕ, List, [], ◌∷◌, ◌++◌, length, map, drop, slice_get, Bool, true}
use Rattle.std.specs.Prelude.{false}
use Rattle.std.specs.Prelude.{if◌then◌else◌, Option, Some, None}
use Rattle.std.specs.List.{list_any}
use Rattle.std.specs.Str.{bytes_eq}
use Rattle.model.specs.declared.journals.Limits.{Limits}
use Rattle.model.specs.ClassListings.{ClassListing}
use Rattle.model.specs.Worlds.{World}
use Rattle.exploration.specs.Observations.{IsHalted, Observed, observed}
use Rattle.exploration.specs.Outcomes.{IsOutcome, IsReal, TellsOutcomes}
use Rattle.exploration.specs.Reduction.{ClosedReduced}
use Rattle.exploration.specs.Search.{ClosedBelow}
use Rattle.exploring.specs.declared.explored.Cut.{Cut}
use Rattle.exploring.specs.declared.explored.Move.{Move}
use Rattle.exploring.specs.declared.search.Waiting.{Waiting}
use Rattle.exploring.specs.Expansion.{HasKnown, IsTraced, Search, world_of}
use Rattle.exploring.specs.Keys.{outcome}
use Rattle.exploring.specs.Origins.{AreTurns, pairs_in, start_of}

-- What an exploration finds, and what is true of it.

-- an outcome, and the moves of a run that comes to it
pub record Finding : Type 0 where
  pub outcome : Observed
  pub moves : List Move

abbrev pub outcome_of : Finding → Observed
outcome_of f = f.outcome

-- outcomes, and the key of each
pub record Outcomes : Type 0 where
  pub keys : List (List ℕ)
  pub found : List Finding

abbrev pub finding : Observed → List Move → Finding
finding o moves = record { outcome = o; moves = moves }

-- one more, unless it's there
abbrev pub noted : Outcomes → Observed → List Move → Outcomes
noted s o moves = if list_any (bytes_eq (outcome o)) s.keys then s
    else record { keys = s.keys ++ outcome o ∷ []; found = s.found ++ finding o moves ∷ [] }

-- ---- what is true of outcomes

abbrev pub BeginsWith : List Move → List Move → Type 0
BeginsWith first moves = (more : List Move) × (moves ≡ first ++ more)

abbrev pub IsOnce : List Observed → Type 0
IsOnce os = (i j : ℕ) (o : Observed) → slice_get os i ≡ Some o → slice_get os j ≡ Some o → i ≡ j

-- each is that of the ideal run of its moves, which begin with those that came first; and no two are the same
pub record AreSoundAfter (program : List ClassListing) (limits : Limits) (first : List Move)
    (found : List Finding) : Type 0 where
  pub real : (k : ℕ) (f : Finding) → slice_get found k ≡ Some f
      → IsReal program limits (pairs_in f.moves) f.outcome
  pub begin : (k : ℕ) (f : Finding) → slice_get found k ≡ Some f → BeginsWith first f.moves
  pub once : IsOnce (map outcome_of found)

-- the same of all runs, where no moves came first
abbrev pub AreSound : List ClassListing → Limits → List Finding → Type 0
AreSound program limits found = AreSoundAfter program limits [] found

-- ---- a search on its way

pub record Exploration : Type 0 where
  pub search : Search
  pub outcomes : Outcomes

abbrev pub key_of : Finding → List ℕ
key_of f = outcome f.outcome

-- the outcomes of the first n states are listed
abbrev pub Lists : List ClassListing → Limits → Outcomes → List World → ℕ → Type 0
Lists program limits s known n = (k : ℕ) (x : World) → k < n → slice_get known k ≡ Some x → IsHalted program limits x
    → IsOutcome (map outcome_of s.found) (observed program x)

-- the first n states were expanded, all others wait
pub record IsAt (program : List ClassListing) (limits : Limits) (first : List Move) (no_room : Bool)
    (e : Exploration) (known : List World)
    (n : ℕ) : Type 0 where
  pub within : n ≤ length known
  pub has : HasKnown program limits first e.search known
  pub waits : map world_of e.search.waiting ≡ drop n known
  pub closed : ClosedBelow program limits no_room (start_of program limits first) known n
  pub keyed : map key_of e.outcomes.found ≡ e.outcomes.keys
  pub sound : AreSoundAfter program limits first e.outcomes.found
  pub lists : Lists program limits e.outcomes known n

pub record IsOnItsWay (program : List ClassListing) (limits : Limits) (first : List Move) (no_room : Bool)
    (e : Exploration) : Type 0 where
  pub known : List World
  pub expanded : ℕ
  pub is : IsAt program limits first no_room e known expanded

-- before what the first moves lead to is expanded, or where one of them is refused
abbrev pub Begins : List ClassListing → Limits → List Move → Bool → Option Exploration → Type 0
Begins program limits first no_room None = AreTurns program limits first → ⊥
Begins program limits first no_room (Some e) = IsOnItsWay program limits first no_room e

-- the same but that the next state was taken from those that wait
pub record IsBefore (program : List ClassListing) (limits : Limits) (first : List Move) (no_room : Bool)
    (e : Exploration) (s : Waiting)
    : Type 0 where
  pub known : List World
  pub expanded : ℕ
  pub there : slice_get known expanded ≡ Some s.world
  pub traced : IsTraced program limits first e.search.origins s
  pub has : HasKnown program limits first e.search known
  pub waits : map world_of e.search.waiting ≡ drop (expanded + 1) known
  pub closed : ClosedBelow program limits no_room (start_of program limits first) known expanded
  pub keyed : map key_of e.outcomes.found ≡ e.outcomes.keys
  pub sound : AreSoundAfter program limits first e.outcomes.found
  pub lists : Lists program limits e.outcomes known expanded

-- ---- the end of a search that wasn't cut off

-- there is a closed list of so many states, and the outcome of every run is listed
pub record IsCompleteAfter (program : List ClassListing) (limits : Limits) (first : List Move) (no_room : Bool)
    (count : ℕ)
    (outcomes : List Observed) : Type 0 where
  pub states : List World
  pub closed : ClosedReduced program limits no_room (start_of program limits first) states
  pub count_is : length states ≡ count
  pub told : TellsOutcomes program limits no_room (start_of program limits first) outcomes

-- the same of all runs
abbrev pub IsComplete : List ClassListing → Limits → Bool → ℕ → List Observed → Type 0
IsComplete program limits no_room count outcomes = IsCompleteAfter program limits [] no_room count outcomes

abbrev pub HasAll : List ClassListing → Limits → List Move → Bool → Exploration → Type 0
HasAll program limits first no_room e =
    IsCompleteAfter program limits first no_room (length e.search.origins) (map outcome_of e.outcomes.found)

-- after a state, where there was one
abbrev pub IsFurther : List ClassListing → Limits → List Move → Bool → Exploration → Bool → Type 0
IsFurther program limits first no_room e true = IsOnItsWay program limits first no_room e
IsFurther program limits first no_room e false =
    HasAll program limits first no_room e × AreSoundAfter program limits first e.outcomes.found

-- after all
abbrev pub IsOver : List ClassListing → Limits → List Move → Bool → Exploration → Option Cut → Type 0
IsOver program limits first no_room e None =
    HasAll program limits first no_room e × AreSoundAfter program limits first e.outcomes.found
IsOver program limits first no_room e (Some cut) = AreSoundAfter program limits first e.outcomes.found

-- ---- what is reported

pub record Report : Type 0 where
  pub found : List Finding
  pub states : ℕ
  pub turns : ℕ
  pub cut : Option Cut

abbrev pub outcomes_in : Report → List Observed
outcomes_in r = map outcome_of r.found

abbrev pub report_of : Exploration → Option Cut → Report
report_of e cut = record {
  found = e.outcomes.found;
  states = length e.search.origins;
  turns = e.search.turns;
  cut = cut;
}
