use Rattle.std.specs.Prelude.{ℕ, zero, suc, ◌+◌, List, [], length, replicate, slice_get, slice_set, Option, Some, None}
use Rattle.std.specs.Option.{option_map}
use Rattle.model.specs.declared.journals.HeapShape.{HeapShape}
use Rattle.model.specs.declared.turns.Exception.{Exception}
use Rattle.model.specs.declared.turns.Exception.TheVariants.{Arithmetic, NullPointer, ClassCast, NegativeArraySize}
use Rattle.model.specs.declared.turns.Exception.TheVariants.{ArrayStore, IllegalMonitorState, ArrayIndexOutOfBounds}
use Rattle.model.specs.declared.turns.Exception.TheVariants.{IllegalThreadState, StackOverflow, ExceptionInInitializer}
use Rattle.model.specs.declared.turns.Exception.TheVariants.{NoClassDefFound}
use Rattle.model.specs.declared.values.Value.{Value}
use Rattle.model.specs.ClassListings.{ClassListing}
use Rattle.model.specs.Accounts.{Account, opening_account}
use Rattle.model.specs.Worlds.{Thread, World, opening_slots}
use Rattle.model.specs.Collector.Places.{ref_of}
use Rattle.cells.specs.Objects.{StoredObject, made_object, object_if, words_if, word_set}
use Rattle.collector.specs.Freed.{freed_cell}
use Rattle.join.specs.TurnsOnCells.{birth_in, shade_cell_if, shade_cells, step_on}
use Rattle.instructions.specs.declared.kinds.Kind.{Kind}
use Rattle.instructions.specs.declared.kinds.Kind.TheVariants.{Instance}
use Rattle.instructions.specs.Shown.{keyed, objects_shown}

-- The heap that the code keeps: the account of its cells, and the objects in them, whose kinds are numbers. A reference
-- is the number of a cell and one more.

pub record HeapValue : Type 0 where
  pub shape : HeapShape
  pub account : Account
  pub objects : List (Option (StoredObject Kind))
  pub births : ℕ
  -- how many classes the program has, after which the machine's own are numbered
  pub classes : ℕ

-- ---- the machine's own classes by their numbers, which stand after those of the program

abbrev pub own_class : List ClassListing → ℕ → Kind
own_class program place = Instance (length program + place)

abbrev pub exception_place : Exception → ℕ
exception_place Arithmetic = 5
exception_place NullPointer = 6
exception_place ClassCast = 7
exception_place NegativeArraySize = 8
exception_place ArrayStore = 9
exception_place IllegalMonitorState = 10
exception_place ArrayIndexOutOfBounds = 12
exception_place IllegalThreadState = 14
exception_place StackOverflow = 17
exception_place ExceptionInInitializer = 19
exception_place NoClassDefFound = 20

abbrev pub exception_kind : List ClassListing → Exception → Kind
exception_kind program exception = own_class program (exception_place exception)

abbrev pub memory_error_kind : List ClassListing → Kind
memory_error_kind program = own_class program 16

-- ---- objects

-- an object as it is made
abbrev pub made : Kind → List Value → StoredObject Kind
made kind words = made_object kind words

-- births 1 and 2 are in the first two cells
abbrev pub opening_stored : List ClassListing → HeapShape → List (Option (StoredObject Kind))
opening_stored program shape =
    slice_set (slice_set (replicate (shape.small + shape.medium + shape.large) None) 0
    (Some (made (memory_error_kind program) [])))
    1 (Some (made (exception_kind program StackOverflow) []))

abbrev pub opening_heap : List ClassListing → HeapShape → HeapValue
opening_heap program shape = record {
  shape = shape;
  account = opening_account shape;
  objects = opening_stored program shape;
  births = 3;
  classes = length program;
}

-- the object of a reference; 0 is nobody's
abbrev pub held : HeapValue → ℕ → Option (StoredObject Kind)
held h zero = None
held h (suc cell) = object_if (slice_get h.objects cell)

abbrev pub kind_held : HeapValue → ℕ → Option Kind
kind_held h reference = option_map (λ o. o.kind) (held h reference)

abbrev pub words_held : HeapValue → ℕ → List Value
words_held h reference = words_if (held h reference)

-- ---- how it changes

abbrev pub shaded : HeapValue → Option ℕ → HeapValue
shaded h reference = record h { account = shade_cell_if h.account reference }

abbrev pub all_shaded : HeapValue → List ℕ → HeapValue
all_shaded h references = record h { account = shade_cells h.account references }

-- a new object comes into the cell that was taken, if one was
abbrev pub created : HeapValue → Kind → List Value → Option (ℕ × Account) → HeapValue
created h kind words None = h
created h kind words (Some taken) = record h {
  account = birth_in taken.1 taken.0 h.births;
  objects = slice_set h.objects taken.0 (Some (made kind words));
  births = h.births + 1;
}

abbrev pub reference_taken : Option (ℕ × Account) → Option ℕ
reference_taken None = None
reference_taken (Some taken) = Some (suc taken.0)

abbrev pub written : HeapValue → ℕ → ℕ → Value → HeapValue
written h zero index v = h
written h (suc cell) index v =
    record h {
      objects = slice_set h.objects cell (option_map (word_set index v) (object_if (slice_get h.objects cell)));
    }

-- ---- the collector's turn

-- the reference that a value is, if there is a value
abbrev pub ref_if : Option Value → Option ℕ
ref_if None = None
ref_if (Some value) = ref_of value

-- what the collector looks at: the threads' frames, the static fields and the objects
abbrev pub world_looked_at : List ClassListing → List Thread → List Value → List (Option (StoredObject Kind)) → World
world_looked_at program threads slots objects = record {
  threads = threads;
  statics = record { fields = keyed (opening_slots program) slots; states = [] };
  output = [];
  objects = objects_shown program objects;
  fault = None;
  rows = 0;
}

abbrev pub looked_at : List ClassListing → List Thread → List Value → HeapValue → World
looked_at program threads slots h = world_looked_at program threads slots h.objects

abbrev pub cleared : {K : Type 0} → List (Option (StoredObject K)) → Option ℕ → List (Option (StoredObject K))
cleared objects None = objects
cleared objects (Some cell) = slice_set objects cell None

abbrev pub collected : List ClassListing → List Thread → List Value → HeapValue → HeapValue
collected program threads slots h = record h {
  account = step_on h.shape (looked_at program threads slots h) h.account h.account.phase;
  objects = cleared h.objects (freed_cell h.account h.account.phase);
}
