use Rattle.std.specs.Prelude.{◌≡◌, ◌⊎◌, ◌≤◌, ℕ, List, replicate, slice_get, true, false, Some, None}
use Rattle.model.specs.Frames.{Frame}
use Rattle.model.specs.declared.instructions.Invocation.{Invocation}
use Rattle.model.specs.ClassListings.{ClassListing}
use Rattle.model.specs.Effects.Choice.{NewObject}
use Rattle.model.specs.Worlds.{World, frames_at, with_thread}
use Rattle.model.specs.Worlds.Thread.{Live}
use Rattle.ideal_run.specs.Successors.{Transitions, successor}
use Rattle.exploration.specs.ClosedLists.{pair_of}
use Rattle.exploration.specs.PlainTurns.{has_entered, may_return}
use Rattle.exploration.specs.ReducedRuns.{pairs_in}
use Rattle.exploration.specs.Reduction.{GoesAhead, PlainStep}

-- Going ahead: the thread whose turn it was makes its plain steps at once.

-- a thread has made so many such steps
pub record WentAhead (program : List ClassListing) (t n : ℕ) (w v : World) : Type 0 where
  pub ahead : GoesAhead program w v
  pub pairs : pairs_in ahead ≡ replicate n (pair_of t NewObject)

-- what a plain step of a thread leaves
pub record IsPlainTurn (program : List ClassListing) (w : World) (t : ℕ) (after : World) : Type 0 where
  pub frames : List Frame
  pub others : List Frame
  pub live : slice_get w.threads t ≡ Some (Live frames)
  pub step : PlainStep program w frames others
  pub is : after ≡ with_thread w t (Live others)

-- what a turn leaves that neither asks for a cell nor is at fault
abbrev pub IsQuietTurn : Transitions → World → ℕ → World → Type 0
IsQuietTurn s w t v = (Some (record { world = v; asks = false }) ≡ successor s w t NewObject) × (v.fault ≡ None)

-- a return, or a call, that does
abbrev pub IsQuietReturn : Transitions → World → ℕ → Frame → World → Type 0
IsQuietReturn s w t f v = IsQuietTurn s w t v × (may_return s.program (frames_at w t) f ≡ true)

abbrev pub IsQuietCall : Transitions → World → ℕ → Frame → Invocation → World → Type 0
IsQuietCall s w t f invocation v = IsQuietTurn s w t v × (has_entered s.program w t f invocation v ≡ true)

-- a thread has made some of so many plain steps
pub record WentUpTo (program : List ClassListing) (t most : ℕ) (w v : World) (n : ℕ) : Type 0 where
  pub went : WentAhead program t n w v
  pub few : n ≤ most

-- a thread has gone as far as it may, and not at all after a fault
pub record WentOn (program : List ClassListing) (t most : ℕ) (w v : World) (n : ℕ) : Type 0 where
  pub went : WentAhead program t n w v
  pub few : n ≤ most
  pub clean : (w.fault ≡ None) ⊎ ((n ≡ 0) × (v ≡ w))
