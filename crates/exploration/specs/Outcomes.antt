use Rattle.std.specs.Prelude.{◌≡◌, ◌++◌, ℕ, List, length, slice_get, Bool, true, false, Some}
use Rattle.model.specs.declared.journals.HeapShape.{HeapShape}
use Rattle.model.specs.declared.journals.Limits.{Limits}
use Rattle.model.specs.declared.turns.Actor.{Actor}
use Rattle.model.specs.declared.turns.Status.{Status}
use Rattle.model.specs.declared.turns.Status.TheVariants.{Running, Finished, Stuck, Faulted}
use Rattle.model.specs.ClassListings.{ClassListing}
use Rattle.model.specs.Worlds.{World}
use Rattle.model.specs.Observers.{status_in}
use Rattle.model.specs.Collector.Runs.{machine_after}
use Rattle.exploration.specs.ClosedLists.{ActorsFindRoom, ComesTo, IsWitnessed, Pair, PairsFindRoom, ideal_after}
use Rattle.exploration.specs.Observations.{IsHalted, Observed, observed}
use Rattle.exploration.specs.Reduction.{ClosedReduced}
use Rattle.exploration.specs.Representation.{uncounted}

-- The outcomes of a program: what is observed of runs in which no thread can go on. Of these are all that are at rest.

abbrev pub runs_on : Status → Bool
runs_on Running = true
runs_on Finished = false
runs_on Stuck = false
runs_on Faulted = false

-- no thread is ready any more, or there was a fault
abbrev pub IsAtRest : List ClassListing → World → Type 0
IsAtRest program w = runs_on (status_in program w) ≡ false

abbrev pub RestIsHalted : Type 0
RestIsHalted = (program : List ClassListing) (limits : Limits) (w : World) → IsAtRest program w
    → IsHalted program limits w

abbrev pub IsOutcome : List Observed → Observed → Type 0
IsOutcome outcomes o = (k : ℕ) × (slice_get outcomes k ≡ Some o)

-- what is observed of each state in which no thread can go on is listed
abbrev pub HasOutcomes : List ClassListing → Limits → List World → List Observed → Type 0
HasOutcomes program limits states outcomes = (k : ℕ) (x : World) → slice_get states k ≡ Some x
    → IsHalted program limits x → IsOutcome outcomes (observed program x)

-- The outcome of every run that passes through a start is listed, whatever its turns before and after: with no_room of
-- each, else of each in which no cell is missing after the start. The first says it without regard to limits of steps.
pub record TellsOutcomes (program : List ClassListing) (limits : Limits) (no_room : Bool) (start : World)
    (outcomes : List Observed) : Type 0 where
  pub worlds : (w : World) → ComesTo program limits no_room start w → IsHalted program limits w
      → IsOutcome outcomes (observed program w)
  pub runs : (before after : List Pair) → uncounted (ideal_after program limits before) ≡ start
      → (no_room ≡ false → PairsFindRoom after)
      → IsHalted program limits (ideal_after program limits (before ++ after))
      → IsOutcome outcomes (observed program (ideal_after program limits (before ++ after)))
  pub machines : (shape : HeapShape) (before after : List Actor)
      → uncounted (machine_after program shape limits before).world ≡ start
      → (no_room ≡ false → ActorsFindRoom program shape limits (machine_after program shape limits before) after)
      → IsHalted program limits (machine_after program shape limits (before ++ after)).world
      → IsOutcome outcomes (observed program (machine_after program shape limits (before ++ after)).world)

abbrev pub OutcomesOfAll : Type 0
OutcomesOfAll = (program : List ClassListing) (limits : Limits) (no_room : Bool) (start : World) (states : List World)
    (outcomes : List Observed)
    → ClosedReduced program limits no_room start states → HasOutcomes program limits states outcomes
    → TellsOutcomes program limits no_room (uncounted start) outcomes

-- no thread of the ideal run of these pairs can go on, and this is observed of it; each pair was a turn
pub record IsReal (program : List ClassListing) (limits : Limits) (pairs : List Pair) (o : Observed) : Type 0 where
  pub observed : o ≡ observed program (ideal_after program limits pairs)
  pub halted : IsHalted program limits (ideal_after program limits pairs)
  pub made : (ideal_after program limits pairs).rows ≡ length pairs

-- and what is observed of a state is observed of the ideal run of its pairs
abbrev pub OutcomesAreReal : Type 0
OutcomesAreReal = (program : List ClassListing) (limits : Limits) (pairs : List Pair) (x : World)
    → IsWitnessed program limits pairs x → IsHalted program limits x
    → IsReal program limits pairs (observed program x)
