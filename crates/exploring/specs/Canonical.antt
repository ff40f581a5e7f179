use Rattle.std.specs.Prelude.{ℕ, ◌+◌, List, [], ◌∷◌, length, replicate, slice_index_or, slice_set}
use Rattle.model.specs.Naming.{Naming}
use Rattle.model.specs.Worlds.{World}
use Rattle.join.specs.OnCells.{on_cells}
use Rattle.collector.specs.Reaching.{marked}
use Rattle.exploration.specs.CanonicalForms.{taken}

-- The canonical form of a world: births get their places in a walk as names, and garbage is left out.

-- a naming as a table by births
abbrev pub naming_by : List ℕ → Naming
naming_by names b = slice_index_or names b 0

-- the births of a list are numbered, from a number on
abbrev pub numbered : List ℕ → ℕ → List ℕ → List ℕ
numbered names k [] = names
numbered names k (b ∷ bs) = numbered (slice_set names b (k + 1)) (k + 1) bs

abbrev pub order_of : World → List ℕ
order_of w = (marked w (length w.objects)).list

abbrev pub names_of : World → List ℕ
names_of w = numbered (replicate (length w.objects) 0) 0 (order_of w)

abbrev pub canonical : World → World
canonical w = on_cells (naming_by (names_of w)) (taken (order_of w)) w
