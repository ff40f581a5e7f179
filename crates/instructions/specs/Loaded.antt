use Rattle.std.specs.Prelude.{◌≡◌, ◌<◌, ◌≤◌, ◌+◌, ◌^◌, ℕ, List, length, vec_capacity, Option, None, true}
use Rattle.std.specs.List.{list_all}
use Rattle.model.specs.declared.journals.HeapShape.{HeapShape}
use Rattle.model.specs.declared.journals.Limits.{Limits}
use Rattle.model.specs.declared.turns.ClassState.{ClassState}
use Rattle.model.specs.declared.turns.Fault.{Fault}
use Rattle.model.specs.declared.values.Value.{Value}
use Rattle.model.specs.ClassListings.{ClassListing}
use Rattle.model.specs.Accepted.Refusals.{refusal_of}
use Rattle.model.specs.Table.Next.{completion}
use Rattle.model.specs.WellNamed.{is_well_named}
use Rattle.model.specs.Worlds.{Thread, World, opening_slots}
use Rattle.cells.specs.Objects.{StoredObject}
use Rattle.join.specs.TurnsOnCells.{CellMachine, collected_on, counted_on, opening_on, turned_on}
use Rattle.instructions.specs.declared.kinds.Kind.{Kind}
use Rattle.instructions.specs.declared.machines.Machine.{Machine}
use Rattle.instructions.specs.ByNumbers.{AreStored}
use Rattle.instructions.specs.Heaps.{HeapValue}
use Rattle.instructions.specs.Shown.{keyed, objects_shown}
use Rattle.instructions.specs.Threads.{ThreadsValue, all_shown}

-- a program that runs: its classes, its limits, the heap's shape, and the machine on cells that its turns have made
pub record Loaded : Type 0 where
  pub program : List ClassListing
  pub limits : Limits
  pub shape : HeapShape
  pub machine : CellMachine

-- a program that has made no turn
abbrev pub fresh : List ClassListing → Limits → HeapShape → Loaded
fresh program limits shape = record {
  program = program;
  limits = limits;
  shape = shape;
  machine = opening_on program shape;
}

-- the same after a turn of a thread
abbrev pub after_step : Loaded → ℕ → Loaded
after_step s t = record s
    { machine = counted_on (turned_on s.program s.machine t (completion s.program s.machine.world t)) }

-- the same after a turn of the collector
abbrev pub after_collection : Loaded → Loaded
after_collection s = record s { machine = counted_on (collected_on s.shape s.machine) }

-- ---- how the parts of the state show a machine on cells

abbrev pub world_shown : List ClassListing → List Thread → List Value → List ClassState
    → List (Option (StoredObject Kind)) → List ℕ → Option (Fault × ℕ) → ℕ → World
world_shown program threads slots states objects output fault rows = record {
  threads = threads;
  statics = record { fields = keyed (opening_slots program) slots; states = states };
  output = output;
  objects = objects_shown program objects;
  fault = fault;
  rows = rows;
}

abbrev pub machine_shown : List ClassListing → List Thread → List Value → List ClassState → HeapValue → List ℕ
    → Option (Fault × ℕ) → ℕ → CellMachine
machine_shown program threads slots states heap output fault rows = record {
  world = world_shown program threads slots states heap.objects output fault rows;
  account = heap.account;
  births = heap.births;
}

-- the parts of a state, with its threads
abbrev pub state_shown : List ClassListing → Machine → ThreadsValue → Option (Fault × ℕ) → ℕ → CellMachine
state_shown program m threads fault rows =
    machine_shown program (all_shown program threads m.thread m.frames) m.slots m.states.items m.heap m.output.items
    fault rows

-- what holds of the parts: names of the program are names, no rule refuses it, each class has a state, objects have all
-- words of their classes, the machine runs a thread that was started, and a turn makes one birth at most
pub record IsSound (program : List ClassListing) (limits : Limits) (m : Machine) (threads : ThreadsValue)
    (rows : ℕ) : Type 0 where
  pub named : list_all is_well_named program ≡ true
  pub accepted : refusal_of program ≡ None
  pub room : limits.output ≤ vec_capacity m.output
  pub steps : limits.steps ≤ 16777215
  pub started : m.thread < length threads.courses
  pub few_threads : length threads.courses ≤ 64
  pub parked : length threads.parked ≡ 64
  pub sized : length m.states.items ≡ length program
  pub few_slots : length m.slots < 2 ^ 32
  pub slots_are : length m.slots ≡ length (opening_slots program)
  pub classes : m.heap.classes ≡ length program
  pub stored : AreStored program m.heap.objects
  pub births : m.heap.births ≤ rows + 3
