-- The machine on cells for which a world's journal stands, and the heap that its cells are.
use Rattle.std.specs.Prelude.{◌≡◌, ℕ, zero, suc, List, [], ◌∷◌, map, slice_get, Option, None, Some}
use Rattle.std.specs.Option.{option_map}
use Rattle.model.specs.declared.colours.Cell.{Cell}
use Rattle.model.specs.declared.colours.Cell.TheVariants.{Free, Taken}
use Rattle.model.specs.declared.journals.Row.{Row}
use Rattle.model.specs.declared.turns.Actor.{Actor}
use Rattle.model.specs.Machines.{Recorded}
use Rattle.model.specs.Naming.{Naming, named_field, named_thread, named_value}
use Rattle.model.specs.Objects.{object_at}
use Rattle.model.specs.Shows.{Held, HeapCell, HeapWorld, all_read, held_in, kind_of_contents, value_read, values_in}
use Rattle.model.specs.Worlds.{Object}
use Rattle.join.specs.TurnsOnCells.{CellMachine, moved_on_by_all, opening_on}

abbrev pub actors_of : List Row → List Actor
actors_of rows = map (λ (row : Row). row.actor) rows

-- after one turn of each row's actor, from the opening on
unfoldable pub cells_of : Recorded → CellMachine
cells_of v = moved_on_by_all v.program v.journal.shape v.journal.limits (opening_on v.program v.journal.shape)
    (actors_of v.journal.rows)

-- ---- cells as they stand

-- a reference of the machine on cells is the number of a cell and one more
abbrev pub cell_referred : Naming
cell_referred zero = zero
cell_referred (suc c) = c

-- an object in a cell, whose words hold numbers of cells
abbrev pub standing : ℕ → Object → Held
standing b o = record {
  birth = b;
  kind = kind_of_contents o.contents;
  words = map (named_value cell_referred) (values_in o.contents);
  monitor = o.monitor;
  thread = o.thread;
}

abbrev pub held_in_cell : CellMachine → ℕ → Cell → HeapCell
held_in_cell x c Free = None
held_in_cell x c (Taken b colour) = option_map (standing b) (object_at x.world (suc c))

-- cells from a number on
abbrev pub heap_from : CellMachine → ℕ → List Cell → List HeapCell
heap_from x c [] = []
heap_from x c (cell ∷ cells) = held_in_cell x c cell ∷ heap_from x (suc c) cells

abbrev pub heap_on : CellMachine → HeapWorld
heap_on x = record {
  cells = heap_from x 0 x.account.cells;
  threads = map (named_thread cell_referred) x.world.threads;
  statics = record {
    fields = map (named_field cell_referred) x.world.statics.fields;
    states = x.world.statics.states;
  };
  output = x.world.output;
  fault = x.world.fault;
  rows = x.world.rows;
  next_birth = x.births;
}

-- ---- what is told of cells, with births in place of references

-- it is read of the object that stands in this cell
pub record IsToldOf (cells : List HeapCell) (c : ℕ) (told : Held) : Type 0 where
  pub standing : Held
  pub there : held_in cells c ≡ Some standing
  pub birth : standing.birth ≡ told.birth
  pub kind : standing.kind ≡ told.kind
  pub words : all_read (value_read cells) standing.words ≡ Some told.words
  pub monitor : standing.monitor ≡ told.monitor
  pub thread : standing.thread ≡ told.thread

abbrev pub AreTold : List HeapCell → List (Option Held) → Type 0
AreTold cells tolds = (c : ℕ) (told : Held) → slice_get tolds c ≡ Some (Some told) → IsToldOf cells c told
