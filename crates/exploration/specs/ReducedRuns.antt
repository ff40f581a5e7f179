use Rattle.std.specs.Prelude.{◌≡◌, ◌≤◌, ◌+◌, ℕ, Bool, List, [], ◌∷◌, ◌++◌, length, map, slice_get, Some, None}
use Rattle.model.specs.declared.turns.Actor.TheVariants.{Thread as ThreadActor}
use Rattle.model.specs.Effects.{Choice}
use Rattle.model.specs.Table.Next.{next}
use Rattle.model.specs.Turns.{refusal}
use Rattle.exploration.specs.Representation.{Represents, uncounted}
use Rattle.model.specs.declared.journals.Limits.{Limits}
use Rattle.model.specs.ClassListings.{ClassListing}
use Rattle.model.specs.Worlds.{World}
use Rattle.model.specs.Observers.{status_in}
use Rattle.model.specs.Effects.Choice.{NewObject}
use Rattle.exploration.specs.ClosedLists.{ComesTo, IsWitnessed, Pair, pair_of}
use Rattle.exploration.specs.Reduction.{GoesAhead, ClosedReduced}
use Rattle.exploration.specs.Reduction.GoesAhead.{stays, steps}
use Rattle.exploration.specs.Observations.{IsHalted, end_of}

-- What a list that goes ahead shows of all runs.

-- a state of the list that has printed the same, has the same fault, and whose threads have ended alike; where no
-- thread can go on, none of the state can, and it has the world's status
pub record ShowsSameEnd (program : List ClassListing) (limits : Limits) (states : List World) (w : World) : Type 0 where
  pub place : ℕ
  pub state : World
  pub there : slice_get states place ≡ Some state
  pub output : state.output ≡ w.output
  pub fault : state.fault ≡ w.fault
  pub ends : map end_of state.threads ≡ map end_of w.threads
  pub halted : IsHalted program limits w → IsHalted program limits state
  pub status : IsHalted program limits w → status_in program state ≡ status_in program w

-- so it is of whatever the turns of the start lead to
abbrev pub ReducedShowsAll : Type 0
ReducedShowsAll = (program : List ClassListing) (limits : Limits) (no_room : Bool) (start : World) (states : List World)
    → ClosedReduced program limits no_room start states
    → (w : World) → ComesTo program limits no_room (uncounted start) w → ShowsSameEnd program limits states w

-- ---- and nothing else is in the list

-- the pairs of the turns by which a world goes ahead
abbrev pub pairs_in : {program : List ClassListing} {w v : World} → GoesAhead program w v → List Pair
pairs_in (stays w) = []
pairs_in (steps w v t frames after live step rest) = pair_of t NewObject ∷ pairs_in rest

-- what a turn of a state with a witness goes ahead to has one too, below the limit of steps
abbrev pub AheadIsWitnessed : Type 0
AheadIsWitnessed = (program : List ClassListing) (limits : Limits) (pairs : List Pair) (x y z : World) (t : ℕ)
    (choice : Choice)
    → IsWitnessed program limits pairs x → refusal program limits x (ThreadActor t) ≡ None
    → (next program x t choice).after.fault ≡ None
    → (ahead : GoesAhead program (next program x t choice).after z)
    → length pairs + 1 + length (pairs_in ahead) ≤ limits.steps → Represents y z
    → IsWitnessed program limits (pairs ++ pair_of t choice ∷ pairs_in ahead) y
