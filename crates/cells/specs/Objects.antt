use Rattle.std.specs.Prelude.{ℕ, ◌+◌, List, [], replicate, slice_get, slice_set, Option, Some, None}
use Rattle.std.specs.Option.{option_map}
use Rattle.model.specs.declared.journals.HeapShape.{HeapShape}
use Rattle.model.specs.declared.values.Value.{Value}
use Rattle.model.specs.Worlds.{Monitor, free_monitor}

-- Objects in the cells of a heap. What an object's kind means, a class or an array's type, is for others to say.

-- the kind that was reported when the object was made, the words that it uses, its monitor, and the number of the
-- thread that was started on it
pub record StoredObject (K : Type 0) : Type 0 where
  pub kind : K
  pub words : List Value
  pub monitor : Monitor
  pub thread : Option ℕ

-- the object of each cell, none in a cell with nobody; the shape tells how many words each cell has (`words_of_cell`)
pub record CellsValue (K : Type 0) : Type 0 where
  pub shape : HeapShape
  pub objects : List (Option (StoredObject K))

-- nobody in any cell
abbrev pub empty_cells : {K : Type 0} → HeapShape → CellsValue K
empty_cells shape = record { shape = shape; objects = replicate (shape.small + shape.medium + shape.large) None }

-- an object as it is made: no thread has its monitor, and none was started on it
abbrev pub made_object : {K : Type 0} → K → List Value → StoredObject K
made_object kind words = record { kind = kind; words = words; monitor = free_monitor; thread = None }

-- so many words, all the same
abbrev pub new_object : {K : Type 0} → K → ℕ → Value → StoredObject K
new_object kind count zero = made_object kind (replicate count zero)

-- ---- what a cell holds

abbrev pub object_if : {K : Type 0} → Option (Option (StoredObject K)) → Option (StoredObject K)
object_if None = None
object_if (Some held) = held

-- the object in a cell, none past the last cell too
abbrev pub object_at : {K : Type 0} → CellsValue K → ℕ → Option (StoredObject K)
object_at cells cell = object_if (slice_get cells.objects cell)

abbrev pub kind_at : {K : Type 0} → CellsValue K → ℕ → Option K
kind_at cells cell = option_map (λ object. object.kind) (object_at cells cell)

abbrev pub words_if : {K : Type 0} → Option (StoredObject K) → List Value
words_if None = []
words_if (Some object) = object.words

abbrev pub words_at : {K : Type 0} → CellsValue K → ℕ → List Value
words_at cells cell = words_if (object_at cells cell)

abbrev pub monitor_if : {K : Type 0} → Option (StoredObject K) → Monitor
monitor_if None = free_monitor
monitor_if (Some object) = object.monitor

abbrev pub monitor_at : {K : Type 0} → CellsValue K → ℕ → Monitor
monitor_at cells cell = monitor_if (object_at cells cell)

abbrev pub thread_if : {K : Type 0} → Option (StoredObject K) → Option ℕ
thread_if None = None
thread_if (Some object) = object.thread

abbrev pub thread_at : {K : Type 0} → CellsValue K → ℕ → Option ℕ
thread_at cells cell = thread_if (object_at cells cell)

-- ---- how cells change: one cell, and no other

abbrev pub with_object : {K : Type 0} → CellsValue K → ℕ → Option (StoredObject K) → CellsValue K
with_object cells cell object = record { shape = cells.shape; objects = slice_set cells.objects cell object }

-- where a cell has no such word, nothing changes
abbrev pub word_set : {K : Type 0} → ℕ → Value → StoredObject K → StoredObject K
word_set index value object = record object { words = slice_set object.words index value }

abbrev pub with_word : {K : Type 0} → CellsValue K → ℕ → ℕ → Value → CellsValue K
with_word cells cell index value = with_object cells cell (option_map (word_set index value) (object_at cells cell))

abbrev pub monitor_set : {K : Type 0} → Monitor → StoredObject K → StoredObject K
monitor_set monitor object = record object { monitor = monitor }

abbrev pub with_monitor : {K : Type 0} → CellsValue K → ℕ → Monitor → CellsValue K
with_monitor cells cell monitor = with_object cells cell (option_map (monitor_set monitor) (object_at cells cell))

abbrev pub thread_set : {K : Type 0} → Option ℕ → StoredObject K → StoredObject K
thread_set thread object = record object { thread = thread }

abbrev pub with_thread : {K : Type 0} → CellsValue K → ℕ → Option ℕ → CellsValue K
with_thread cells cell thread = with_object cells cell (option_map (thread_set thread) (object_at cells cell))
