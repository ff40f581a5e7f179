use Rattle.std.specs.Prelude.{◌≡◌, ℕ, List, map, slice_get, Bool, false, Option, Some, None}
use Rattle.model.specs.declared.journals.HeapShape.{HeapShape}
use Rattle.model.specs.declared.journals.Limits.{Limits}
use Rattle.exploration.specs.declared.ends.End.{End}
use Rattle.exploration.specs.declared.ends.End.TheVariants.{Lives, Ended as HasEnded}
use Rattle.model.specs.declared.turns.Actor.{Actor}
use Rattle.model.specs.declared.turns.Fault.{Fault}
use Rattle.model.specs.declared.turns.Status.{Status}
use Rattle.model.specs.ClassListings.{ClassListing}
use Rattle.model.specs.Worlds.{World, Thread}
use Rattle.model.specs.Worlds.Thread.{Live, Ended}
use Rattle.model.specs.Observers.{status_in}
use Rattle.model.specs.Turns.{thread_refusal}
use Rattle.model.specs.Collector.Runs.{machine_after}
use Rattle.model.specs.Machines.{opening_machine}
use Rattle.exploration.specs.ClosedLists.{Closed, Pair, ideal_after, PairsFindRoom, ActorsFindRoom}

-- What is observed of a world that a run comes to.

-- what a thread has come to
abbrev pub end_of : Thread → End
end_of (Live frames) = Lives
end_of (Ended by) = HasEnded by

pub record Observed : Type 0 where
  pub output : List ℕ
  pub fault : Option (Fault × ℕ)
  pub ends : List End
  pub status : Status

abbrev pub observed : List ClassListing → World → Observed
observed program w = record {
  output = w.output;
  fault = w.fault;
  ends = map end_of w.threads;
  status = status_in program w;
}

-- no thread can go on: each has ended, waits, or would print more than the output has room for; or there was a fault
abbrev pub IsHalted : List ClassListing → Limits → World → Type 0
IsHalted program limits w = (t : ℕ) → thread_refusal program limits w t ≡ None → ⊥

-- a state of the list of which the same is observed
pub record ShowsSame (program : List ClassListing) (states : List World) (w : World) : Type 0 where
  pub place : ℕ
  pub state : World
  pub there : slice_get states place ≡ Some state
  pub same : observed program state ≡ observed program w

-- of whatever a run comes to, of the ideal one and of the machine's, the same is observed as of a state
abbrev pub ClosedShowsAll : Type 0
ClosedShowsAll = (program : List ClassListing) (limits : Limits) (no_room : Bool) (states : List World)
    → Closed program limits no_room states
    → ((pairs : List Pair) → (no_room ≡ false → PairsFindRoom pairs)
    → ShowsSame program states (ideal_after program limits pairs))
    × ((shape : HeapShape) (actors : List Actor)
    → (no_room ≡ false → ActorsFindRoom program shape limits (opening_machine program shape) actors)
    → ShowsSame program states (machine_after program shape limits actors).world)
