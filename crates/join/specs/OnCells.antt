use Rattle.std.specs.Prelude.{◌≡◌, ℕ, suc, List, [], ◌∷◌, map, slice_get, Option, Some, None}
use Rattle.model.specs.declared.colours.Colour.{Colour}
use Rattle.model.specs.declared.turns.Fault.{Fault}
use Rattle.model.specs.declared.colours.Cell.{Cell}
use Rattle.model.specs.declared.colours.Cell.TheVariants.{Free, Taken}
use Rattle.model.specs.Results.{Effect, faulted}
use Rattle.model.specs.Worlds.{World, Object, plain_object}
use Rattle.model.specs.Completions.{Completion, Site}
use Rattle.model.specs.Completions.Completion.{Goes, Prints, Creates, Throws, Raises, Denies, Faults, Waits}
use Rattle.model.specs.Collector.Places.{Reach}
use Rattle.model.specs.Collector.Table.{cell_at}
use Rattle.join.specs.Naming.{Naming, Named, named_field, named_frame, named_thread, named_object}

-- The world on cells: a world of the same definitions, in which an object stands at the number of its cell and one
-- more. So 0 is nobody's on both sides, and births 1 and 2, in the first two cells, are 1 and 2 on both.

-- ---- objects come into cells

-- what stands where no object does
abbrev pub nobody : Object
nobody = plain_object []

abbrev pub object_or_nobody : Option Object → Object
object_or_nobody None = nobody
object_or_nobody (Some o) = o

abbrev pub held_object : Naming → List Object → Cell → Object
held_object h objects Free = nobody
held_object h objects (Taken b colour) = named_object h (object_or_nobody (slice_get objects b))

-- reachable or not, whatever has a cell stands in it
abbrev pub on_cells : Naming → List Cell → World → World
on_cells h cells w = record {
  threads = map (named_thread h) w.threads;
  statics = record { fields = map (named_field h) w.statics.fields; states = w.statics.states };
  output = w.output;
  objects = nobody ∷ map (held_object h w.objects) cells;
  fault = w.fault;
  rows = w.rows;
}

-- ---- what an instruction comes to

-- a new object leads nowhere, so its contents are the same on both sides
abbrev pub completion_on : Naming → List Cell → Completion → Completion
completion_on h cells (Goes after writes) = Goes (on_cells h cells after) (map h writes)
completion_on h cells (Prints after bytes) = Prints (on_cells h cells after) bytes
completion_on h cells (Creates next taken contents) = Creates next taken contents
completion_on h cells (Throws birth) = Throws (h birth)
completion_on h cells (Raises exception) = Raises exception
completion_on h cells (Denies states) = Denies states
completion_on h cells (Faults fault) = Faults fault
completion_on h cells Waits = Waits

abbrev pub site_on : Naming → List Cell → Site → Site
site_on h cells s = record {
  program = s.program;
  world = on_cells h cells s.world;
  thread = s.thread;
  frame = named_frame h s.frame;
  next = s.next;
}

abbrev pub effect_on : Naming → List Cell → Effect → Effect
effect_on h cells e = record { after = on_cells h cells e.after; writes = map h e.writes }

-- an effect on cells, and one of the ideal world: both a fault, of the world before on its side, or one the other's
-- image
pub data Matches (h : Naming) (cells : List Cell) (on before : World) (t : ℕ) (e f : Effect) : Type 0 where
  faults : (fault : Fault) → e ≡ faulted on t fault → f ≡ faulted before t fault → Matches h cells on before t e f
  matches : e ≡ effect_on h cells f → f.after.fault ≡ before.fault → Matches h cells on before t e f

-- ---- where births stand

-- a birth that was made stands in a cell that names it
pub record InCell (h : Naming) (cells : List Cell) (w : World) (b : ℕ) : Type 0 where
  pub cell : ℕ
  pub colour : Colour
  pub object : Object
  pub held : cell_at cells cell ≡ Taken b colour
  pub named : h b ≡ suc cell
  pub made : slice_get w.objects b ≡ Some object

-- so does each that paths reach. Of colours and phases nothing is said, and of what else stands in cells nothing either
pub record ReachedInCells (h : Naming) (cells : List Cell) (w : World) : Type 0 where
  pub named : Named h cells
  pub reached : (b : ℕ) → Reach w b → InCell h cells w b
  pub memory_error : h 1 ≡ 1
  pub stack_error : h 2 ≡ 2
