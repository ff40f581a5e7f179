use Rattle.std.specs.Prelude.{ℕ, zero, suc, List, [], ◌∷◌, map, nat_eq, Bool, false, None, if◌then◌else◌}
use Rattle.std.specs.Option.{option_map}
use Rattle.model.specs.Accounts.{Account}
use Rattle.model.specs.declared.colours.Cell.{Cell}
use Rattle.model.specs.declared.colours.Cell.TheVariants.{Free, Taken}
use Rattle.model.specs.Worlds.{World, Object, next_birth}
use Rattle.model.specs.Naming.{named_field, named_thread, named_value}
use Rattle.model.specs.Objects.{object_at}
use Rattle.model.specs.Shows.{Held, HeapCell, HeapWorld, kind_of_contents, values_in}

-- The machine's world that an account stands for: each object of the ideal world that has a cell stands in it, and
-- births are the numbers of their cells.

abbrev pub holds : ℕ → Cell → Bool
holds b Free = false
holds b (Taken a colour) = nat_eq a b

-- the cell of a birth; the number past the last one where it has none
abbrev pub home : List Cell → ℕ → ℕ
home [] b = zero
home (cell ∷ cells) b = if holds b cell then zero else suc (home cells b)

-- ---- objects come into cells

abbrev pub placed_object : List Cell → ℕ → Object → Held
placed_object cells b o = record {
  birth = b;
  kind = kind_of_contents o.contents;
  words = map (named_value (home cells)) (values_in o.contents);
  monitor = o.monitor;
  thread = o.thread;
}

abbrev pub placed_cell : List Cell → World → Cell → HeapCell
placed_cell cells w Free = None
placed_cell cells w (Taken b colour) = option_map (placed_object cells b) (object_at w b)

abbrev pub heap_of : Account → World → HeapWorld
heap_of a w = record {
  cells = map (placed_cell a.cells w) a.cells;
  threads = map (named_thread (home a.cells)) w.threads;
  statics = record { fields = map (named_field (home a.cells)) w.statics.fields; states = w.statics.states };
  output = w.output;
  fault = w.fault;
  rows = w.rows;
  next_birth = next_birth w;
}
