use Rattle.std.specs.Prelude.{◌≡◌, ℕ, ◌+◌, ◌<◌, ◌≤◌, List, [], ◌∷◌, length, Bool, true, false, Option, Some, None}
use Rattle.std.specs.Prelude.{nat_lt}
use Rattle.model.specs.declared.colours.Colour.{Colour}
use Rattle.model.specs.declared.colours.Phase.{Phase}
use Rattle.model.specs.declared.colours.Phase.TheVariants.{Idle, Statics, Frames, Mark, Append}
use Rattle.model.specs.declared.journals.HeapShape.{HeapShape}
use Rattle.model.specs.declared.journals.Limits.{Limits}
use Rattle.model.specs.declared.turns.Actor.{Actor}
use Rattle.model.specs.declared.turns.Actor.TheVariants.{Thread, Collector}
use Rattle.model.specs.declared.turns.Turn.{Turn}
use Rattle.model.specs.ClassListings.{ClassListing}
use Rattle.model.specs.declared.colours.Cell.TheVariants.{Taken}
use Rattle.model.specs.Limits.{ShapeFits}
use Rattle.model.specs.Worlds.{World, next_birth}
use Rattle.model.specs.Machines.{Machine}
use Rattle.model.specs.Collector.Places.{Reach}
use Rattle.model.specs.Collector.Table.{cell_at}
use Rattle.model.specs.Turns.{refusal}
use Rattle.model.specs.Collector.Runs.{moved_by, moved_by_all, machine_after}

-- Reclaim by count: what no path reaches has no cell once two cycles have ended.

-- ---- how many cycles have ended

abbrev pub counted_end : ℕ → Bool → ℕ
counted_end s true = s
counted_end s false = s + 1

-- a step past the last cell ends a cycle
abbrev pub ended_in : ℕ → Phase → ℕ → ℕ
ended_in s Idle cells = s
ended_in s (Statics slot) cells = s
ended_in s (Frames t d j) cells = s
ended_in s (Mark q) cells = s
ended_in s (Append p) cells = counted_end s (nat_lt p cells)

abbrev pub ended_if : ℕ → Machine → Actor → Option Turn → ℕ
ended_if s m actor (Some refused) = s
ended_if s m (Thread t) None = s
ended_if s m Collector None = ended_in s m.account.phase (length m.account.cells)

-- the cycles that end in a list of turns, on top of s
abbrev pub ended : List ClassListing → HeapShape → Limits → ℕ → Machine → List Actor → ℕ
ended program shape limits s m [] = s
ended program shape limits s m (actor ∷ actors) =
    ended program shape limits (ended_if s m actor (refusal program limits m.world actor))
    (moved_by program shape limits m actor) actors

-- ---- what is reclaimed

abbrev pub IsAppend : Phase → Type 0
IsAppend Idle = ⊥
IsAppend (Statics s) = ⊥
IsAppend (Frames t d j) = ⊥
IsAppend (Mark q) = ⊥
IsAppend (Append p) = Unit {0}

-- a birth that was made and that no path reaches
pub record Lost (w : World) (b : ℕ) : Type 0 where
  pub made : b < next_birth w
  pub unreached : Reach w b → ⊥

-- a birth that no path reaches outside Append, as when the collector leaves Idle, has no cell once two cycles have
-- ended
abbrev pub ReclaimsInTwo : List ClassListing → HeapShape → Limits → Machine → List Actor → Type 0
ReclaimsInTwo program shape limits m later =
    (b c : ℕ) (x : Colour) → (IsAppend m.account.phase → ⊥) → Lost m.world b → 2 ≤ ended program shape limits 0 m later
    → cell_at (moved_by_all program shape limits m later).account.cells c ≡ Taken b x → ⊥

-- from every moment of every run
abbrev pub AlwaysReclaims : Type 0
AlwaysReclaims =
    (program : List ClassListing) (shape : HeapShape) (limits : Limits) (first later : List Actor)
    → ShapeFits shape.small shape.medium shape.large
    → ReclaimsInTwo program shape limits (machine_after program shape limits first) later
