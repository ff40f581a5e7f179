use Rattle.std.specs.Prelude.{◌≡◌, ◌⊎◌, ◌<◌, ◌≤◌, ◌+◌, ◌^◌, ℕ, List, [], ◌∷◌, ◌++◌, length, map, slice_get, Bool, true}
use Rattle.std.specs.Prelude.{false, Option, Some, None}
use Rattle.model.specs.declared.journals.Limits.{Limits}
use Rattle.model.specs.declared.turns.Actor.TheVariants.{Thread}
use Rattle.model.specs.ClassListings.{ClassListing}
use Rattle.model.specs.Table.Next.{next}
use Rattle.model.specs.Turns.{refusal}
use Rattle.model.specs.Worlds.{World}
use Rattle.ideal_run.specs.Effected.{choice_in}
use Rattle.exploration.specs.ClosedLists.{IsWitnessed}
use Rattle.exploration.specs.Reduction.{IsAheadAmong}
use Rattle.exploration.specs.Search.{IsExpanded}
use Rattle.exploring.specs.declared.explored.Cut.{Cut}
use Rattle.exploring.specs.declared.explored.Cut.TheVariants.{States, Memory, Depth}
use Rattle.exploring.specs.declared.explored.Move.{Move}
use Rattle.exploring.specs.declared.origins.Origin.{Origin}
use Rattle.exploring.specs.declared.search.Waiting.{Waiting}
use Rattle.exploring.specs.Ahead.{WentAhead}
use Rattle.exploring.specs.Origins.{IsLed, pairs_in, trail}
use Rattle.exploring.specs.States.{HasStates, Stored}

-- Expanding a state: what its turns lead to is found.

-- the states, the origin of each, those that wait to be expanded, and how many turns were made
pub record Search : Type 0 where
  pub stored : Stored
  pub origins : List Origin
  pub waiting : List Waiting
  pub turns : ℕ

abbrev pub world_of : Waiting → World
world_of s = s.world

-- a state waits that is new
abbrev pub kept : Search → Waiting → Origin → Search
kept s state origin = record s { origins = s.origins ++ origin ∷ []; waiting = s.waiting ++ state ∷ [] }

-- why the state isn't made to which a move of another one, and so many plain steps after it, lead: its number has no
-- room, as many are kept as may be, or how far away it is has no room
abbrev pub CutsAt : ℕ → Search → Waiting → ℕ → Cut → Type 0
CutsAt most s parent ahead Memory = 2 ^ 32 ≤ length s.origins
CutsAt most s parent ahead States = (length s.origins < 2 ^ 32) × (most ≤ length s.origins)
CutsAt most s parent ahead Depth = parent.level + 1 < 2 ^ 32 → 2 ^ 32 ≤ parent.depth + 1 + ahead

-- the first that waited doesn't any longer
abbrev pub Takes : Search → Search → Option Waiting → Type 0
Takes old new None = (old.waiting ≡ []) × (new.origins ≡ old.origins)
Takes old new (Some s) = old ≡ record new { waiting = s ∷ new.waiting }

-- ---- what is known of states

-- the moves that came first, and then those that led to the state
abbrev pub way_to : List Move → List Origin → Waiting → List Move
way_to first origins s = first ++ trail origins s.level s.place

-- the moves that led to the state, those that came first before its trail, are those of an ideal run that comes to what
-- it represents
pub record IsTraced (program : List ClassListing) (limits : Limits) (first : List Move) (origins : List Origin)
    (s : Waiting) : Type 0 where
  pub led : IsLed origins s.level s.place
  pub long : length (way_to first origins s) ≡ s.depth
  pub witnessed : IsWitnessed program limits (pairs_in (way_to first origins s)) s.world

abbrev pub AreTraced : List ClassListing → Limits → List Move → List Origin → List Waiting → Type 0
AreTraced program limits first origins waiting = (j : ℕ) (s : Waiting) → slice_get waiting j ≡ Some s
    → IsTraced program limits first origins s

-- these are the states of a search
pub record HasKnown (program : List ClassListing) (limits : Limits) (first : List Move) (s : Search)
    (known : List World) : Type 0 where
  pub has : HasStates s.stored known
  pub traced : AreTraced program limits first s.origins s.waiting
  pub count : length s.origins ≡ length known

-- ---- how they become more

-- there are more states, and these wait
pub record Grows (program : List ClassListing) (limits : Limits) (first : List Move) (old new : Search)
    (known : List World) : Type 0 where
  pub more : List World
  pub since : List Origin
  pub has : HasKnown program limits first new (known ++ more)
  pub waits : map world_of new.waiting ≡ map world_of old.waiting ++ more
  pub origins : new.origins ≡ old.origins ++ since

-- among them one for what a world goes ahead to
pub record Finds (program : List ClassListing) (limits : Limits) (first : List Move) (old new : Search)
    (known : List World) (w : World)
    : Type 0 where
  pub grows : Grows program limits first old new known
  pub there : IsAheadAmong program (known ++ grows.more) w

-- a world is what a move of a state leads to, and the state isn't the last that the limit of steps allows
pub record Follows (program : List ClassListing) (limits : Limits) (first : List Move) (origins : List Origin)
    (parent : Waiting) (m : Move)
    (w : World) : Type 0 where
  pub traced : IsTraced program limits first origins parent
  pub below : parent.depth < limits.steps
  pub free : refusal program limits parent.world (Thread m.thread) ≡ None
  pub is : w ≡ (next program parent.world m.thread (choice_in m.choice)).after

-- from there the thread went on by so many plain steps, below that limit too
pub record GoesOn (program : List ClassListing) (limits : Limits) (parent : Waiting) (m : Move) (w v : World) (n : ℕ)
    : Type 0 where
  pub went : WentAhead program m.thread n w v
  pub how : ((w.fault ≡ None) × (parent.depth + 1 + n ≤ limits.steps)) ⊎ ((n ≡ 0) × (v ≡ w))

-- whether a thread's turn isn't refused
abbrev pub Moves : List ClassListing → Limits → World → ℕ → Bool → Type 0
Moves program limits x t true = refusal program limits x (Thread t) ≡ None
Moves program limits x t false = refusal program limits x (Thread t) ≡ None → ⊥

-- among them what the turns of a thread of a state lead to
pub record Expands (program : List ClassListing) (limits : Limits) (first : List Move) (no_room : Bool)
    (old new : Search)
    (known : List World) (x : World) (t : ℕ) (moved : Bool) : Type 0 where
  pub grows : Grows program limits first old new known
  pub expanded : IsExpanded program limits no_room (known ++ grows.more) x t
  pub moves : Moves program limits x t moved

-- whether some thread's turn isn't refused, among the first so many, and among all
abbrev pub MovesBelow : List ClassListing → Limits → World → ℕ → Bool → Type 0
MovesBelow program limits x n true = (t : ℕ) × (refusal program limits x (Thread t) ≡ None)
MovesBelow program limits x n false = (t : ℕ) → t < n → refusal program limits x (Thread t) ≡ None → ⊥

abbrev pub SomeMoves : List ClassListing → Limits → World → Bool → Type 0
SomeMoves program limits x true = (t : ℕ) × (refusal program limits x (Thread t) ≡ None)
SomeMoves program limits x false = (t : ℕ) → refusal program limits x (Thread t) ≡ None → ⊥

-- those of the first so many threads, and of all
pub record ExpandsBelow (program : List ClassListing) (limits : Limits) (first : List Move) (no_room : Bool)
    (old new : Search)
    (known : List World) (x : World) (n : ℕ) (moved : Bool) : Type 0 where
  pub grows : Grows program limits first old new known
  pub expanded : (t : ℕ) → t < n → IsExpanded program limits no_room (known ++ grows.more) x t
  pub moves : MovesBelow program limits x n moved

pub record ExpandsAll (program : List ClassListing) (limits : Limits) (first : List Move) (no_room : Bool)
    (old new : Search)
    (known : List World) (x : World) (moved : Bool) : Type 0 where
  pub grows : Grows program limits first old new known
  pub expanded : (t : ℕ) → IsExpanded program limits no_room (known ++ grows.more) x t
  pub moves : SomeMoves program limits x moved
