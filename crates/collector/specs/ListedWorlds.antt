use Rattle.std.specs.Prelude.{ℕ, List, [], ◌∷◌, map, Option, Some, None}
use Rattle.model.specs.declared.values.Value.{Value}
use Rattle.model.specs.declared.values.Value.TheVariants.{Ref}
use Rattle.model.specs.declared.values.Entry.TheVariants.{Holds}
use Rattle.model.specs.declared.turns.Mark.TheVariants.{Unmarked}
use Rattle.model.specs.Frames.{Frame}
use Rattle.model.specs.Worlds.{World, FieldValue, Object}
use Rattle.model.specs.Worlds.Thread.{Live}
use Rattle.model.specs.Worlds.Contents.{Array}
use Rattle.model.specs.Objects.{made_of}
use Rattle.model.specs.Collector.Places.{ref_of}
use Rattle.cells.specs.Objects.{StoredObject, words_if}
use Rattle.join.specs.OnCells.{nobody}

-- A machine told by plain lists, for tests: where its static slots lead, the frames of its one thread, and what its
-- cells hold.

abbrev pub slot_leading : Option ℕ → FieldValue
slot_leading leads = record { class = []; name = []; descriptor = []; value = Ref leads }

abbrev pub frame_with : List (Option ℕ) → Option ℕ → Frame
frame_with entries monitor = record {
  method = record { class = 0; method = 0 };
  pc = 0;
  locals = map (λ leads. Holds (Ref leads)) entries;
  stack = [];
  room = 0;
  monitor = monitor;
  mark = Unmarked;
}

abbrev pub object_in : {K : Type 0} → Option (StoredObject K) → Object
object_in stored = made_of (Array [] (words_if stored))

abbrev pub listed_world : {K : Type 0} → List (Option ℕ) → List Frame → List (Option (StoredObject K)) → World
listed_world slots frames objects = record {
  threads = Live frames ∷ [];
  statics = record { fields = map slot_leading slots; states = [] };
  output = [];
  objects = nobody ∷ map object_in objects;
  fault = None;
  rows = 0;
}

-- where a value leads, if there is one
abbrev pub leads_of : Option Value → Option ℕ
leads_of None = None
leads_of (Some value) = ref_of value
