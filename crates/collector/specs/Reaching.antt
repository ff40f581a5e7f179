use Rattle.std.specs.Prelude.{◌≡◌, ℕ, zero, suc, List, [], ◌∷◌, ◌++◌, replicate, slice_get, slice_set, Bool, true, false}
use Rattle.std.specs.Prelude.{Option, Some, None}
use Rattle.model.specs.Frames.{Frame}
use Rattle.model.specs.Worlds.{World}
use Rattle.model.specs.Collector.Places.{Reach, entries_at, monitor_at, words_of}
use Rattle.model.specs.Collector.Reached.{roots_of}

-- A marking of all that paths from the roots lead to: what was reached is noted once, and then its words are looked at.

-- for each reference whether it was reached, and those that were, in the order in which they were noted
pub record Marking : Type 0 where
  pub marks : List Bool
  pub list : List ℕ

-- so many references, none of which was reached
abbrev pub unmarked : ℕ → Marking
unmarked count = record { marks = replicate count false; list = [] }

-- a reference that has no mark is left out
abbrev pub noted_at : Marking → ℕ → Option Bool → Marking
noted_at m r None = m
noted_at m r (Some true) = m
noted_at m r (Some false) = record { marks = slice_set m.marks r true; list = m.list ++ r ∷ [] }

abbrev pub noted : Marking → Option ℕ → Marking
noted m None = m
noted m (Some r) = noted_at m r (slice_get m.marks r)

abbrev pub all_noted : Marking → List (Option ℕ) → Marking
all_noted m [] = m
all_noted m (r ∷ rs) = all_noted (noted m r) rs

-- what stands in a frame, frames being counted from the outermost
abbrev pub roots_at : List Frame → ℕ → List (Option ℕ)
roots_at frames d = monitor_at frames d ∷ entries_at frames d

-- ---- the words of what was noted, in order, from a place on

abbrev pub with_listed : Marking → Option ℕ → (ℕ → Marking) → Marking
with_listed m None spread = m
with_listed m (Some r) spread = spread r

abbrev pub spread : World → ℕ → ℕ → Marking → Marking
spread w zero n m = m
spread w (suc steps) n m = with_listed m (slice_get m.list n)
    (λ r. spread w steps (suc n) (all_noted m (words_of w.objects r)))

-- all that paths lead to
abbrev pub marked : World → ℕ → Marking
marked w count = spread w count 0 (all_noted (unmarked count) (roots_of w))

-- ---- what such a list is: a walk through all that paths lead to

-- each once, the two errors that were made before the run first
pub record IsWalk (w : World) (list : List ℕ) : Type 0 where
  pub complete : (b : ℕ) → Reach w b → (k : ℕ) × (slice_get list k ≡ Some b)
  pub only : (k b : ℕ) → slice_get list k ≡ Some b → Reach w b
  pub once : (j k b : ℕ) → slice_get list j ≡ Some b → slice_get list k ≡ Some b → j ≡ k
  pub memory_error : slice_get list 0 ≡ Some 1
  pub stack_error : slice_get list 1 ≡ Some 2
