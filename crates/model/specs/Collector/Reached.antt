use Rattle.std.specs.Prelude.{ℕ, zero, suc, List, ◌∷◌, ◌++◌, nat_eq, Bool, false, ◌||◌, Option, Some, None}
use Rattle.std.specs.List.{flat_map, list_any}
use Rattle.model.specs.Frames.{Frame}
use Rattle.model.specs.Worlds.{World, Thread, frames_of, next_birth}
use Rattle.model.specs.Collector.Places.{frame_refs, words_of, slots_of}

-- Whether paths from the roots lead to a birth, as a test.

-- a frame's method monitor and its entries
abbrev pub roots_of_frame : Frame → List (Option ℕ)
roots_of_frame f = f.monitor ∷ frame_refs f

-- those of each of a thread's frames
abbrev pub roots_of_thread : Thread → List (Option ℕ)
roots_of_thread thread = flat_map roots_of_frame (frames_of (Some thread))

-- the two errors that were made before the run, the static slots, and what the threads have
abbrev pub roots_of : World → List (Option ℕ)
roots_of w = Some 1 ∷ Some 2 ∷ slots_of w ++ flat_map roots_of_thread w.threads

-- whether a reference leads to a birth over so many words at most
unfoldable pub leads_within : ℕ → World → ℕ → Option ℕ → Bool
leads_within steps w b None = false
leads_within zero w b (Some a) = nat_eq a b
leads_within (suc steps) w b (Some a) = nat_eq a b || list_any (leads_within steps w b) (words_of w.objects a)

-- whether a path from a root leads to a birth: if one does, then one of no more words than there are births
unfoldable pub is_reached : World → ℕ → Bool
is_reached w b = list_any (leads_within (next_birth w) w b) (roots_of w)
