use Rattle.std.specs.Prelude.{ℕ, List, [], ◌∷◌, ◌++◌, take, Option, Some, None}
use Rattle.model.specs.declared.turns.ClassState.{ClassState}
use Rattle.model.specs.Frames.{Frame, with_running, callers}
use Rattle.model.specs.Objects.{object_at}
use Rattle.model.specs.Table.Threads.{numbered}
use Rattle.model.specs.Worlds.{World, Thread, FieldValue, Object, Monitor}
use Rattle.model.specs.Worlds.Thread.{Live, Ended}
use Rattle.ideal_run.specs.declared.worlds.Monitor.{Monitor as MonitorOf}
use Rattle.ideal_run.specs.declared.worlds.Step.{Step}
use Rattle.ideal_run.specs.declared.worlds.Step.TheVariants.{Runs, Calls, Returns, Claims, Lands, Ends}

-- What becomes of a thread.

abbrev pub stepped : List Frame → Step → Thread
stepped frames (Runs f) = Live (with_running frames f)
stepped frames (Calls f above) = Live (with_running frames f ++ above ∷ [])
stepped frames (Returns f) = Live (with_running (callers frames) f)
stepped frames (Claims above) = Live (frames ++ above.items)
stepped frames (Lands kept f) = Live (take kept frames ++ f ∷ [])
stepped frames (Ends by) = Ended by

abbrev pub monitor_in : MonitorOf → Monitor
monitor_in m = record { owner = m.owner; count = m.count }

-- the object of a birth, if there is one, knows its thread by the number of the next thread
abbrev pub started_if : World → ℕ → Option Object → World
started_if w birth None = w
started_if w birth (Some object) = numbered w birth object

abbrev pub started_on : World → ℕ → World
started_on w birth = started_if w birth (object_at w birth)

-- a world in which nothing was printed and no turn was made
abbrev pub new_world : List Thread → List FieldValue → List ClassState → List Object → World
new_world threads fields states objects = record {
  threads = threads;
  statics = record { fields = fields; states = states };
  output = [];
  objects = objects;
  fault = None;
  rows = 0;
}
