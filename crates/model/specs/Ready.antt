use Rattle.std.specs.Prelude.{ℕ, ◌+◌, List, [], ◌∷◌, Bool, ◌&&◌, not, is_none}
use Rattle.std.specs.List.{list_any}
use Rattle.model.specs.ClassListings.{ClassListing}
use Rattle.model.specs.Worlds.{World, Thread, is_live}
use Rattle.model.specs.Completions.{waits}
use Rattle.model.specs.Table.Next.{completion}

-- a thread is ready where it was started and lives, no fault is recorded, and its instruction does not wait
abbrev pub is_ready : List ClassListing → World → ℕ → Bool
is_ready program w t = is_none w.fault && is_live w t && not (waits (completion program w t))

abbrev pub numbers_from : ℕ → List Thread → List ℕ
numbers_from n [] = []
numbers_from n (thread ∷ threads) = n ∷ numbers_from (n + 1) threads

-- the numbers of the threads that were started
abbrev pub thread_numbers : World → List ℕ
thread_numbers w = numbers_from 0 w.threads

abbrev pub some_lives : World → Bool
some_lives w = list_any (is_live w) (thread_numbers w)

abbrev pub some_is_ready : List ClassListing → World → Bool
some_is_ready program w = list_any (is_ready program w) (thread_numbers w)
