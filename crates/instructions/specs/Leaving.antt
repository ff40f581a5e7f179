use Rattle.std.specs.Prelude.{◌≡◌, ℕ, List, [], ◌∷◌, map, reverse, take, Bool, true, false, Option}
use Rattle.model.specs.declared.turns.ClassState.{ClassState}
use Rattle.model.specs.ClassListings.{ClassListing}
use Rattle.model.specs.Frames.{Frame}
use Rattle.model.specs.Initialisation.{with_states}
use Rattle.model.specs.Unwinding.{initialised_by}
use Rattle.model.specs.Worlds.{World}
use Rattle.instructions.specs.declared.machines.Machine.{Machine}
use Rattle.instructions.specs.HeapMonitors.{all_released_in}
use Rattle.instructions.specs.Heaps.{HeapValue}
use Rattle.instructions.specs.Shown.{objects_shown}

-- Frames that are left, innermost first.

-- so many frames from the running one outwards
abbrev pub innermost : ℕ → List Frame → List Frame
innermost n frames = take n (reverse frames)

-- the class of an initializer that a frame runs, if it runs one
abbrev pub class_if : Bool → ℕ → List ℕ
class_if true class = class ∷ []
class_if false class = []

abbrev pub monitors_of : List Frame → List (Option ℕ)
monitors_of frames = map (λ (f : Frame). f.monitor) frames

-- these frames are left: their monitors are given back, and the classes that they initialise come into a state. The
-- frames that stay are told beside it
pub record HasLeft (program : List ClassListing) (state : ClassState) (left : List Frame) (old new : Machine) : Type 0
  where
    pub thread : new.thread ≡ old.thread
    pub slots : new.slots ≡ old.slots
    pub states : new.states.items ≡ with_states state (initialised_by program left) old.states.items
    pub heap : new.heap ≡ all_released_in old.heap old.thread (monitors_of left)
    pub output : new.output ≡ old.output

-- a world whose objects are those of this heap, once a thread has left these frames
abbrev pub world_left : List ClassListing → HeapValue → World → ℕ → ClassState → List Frame → World
world_left program h w t state left = record w {
  statics = record {
    fields = w.statics.fields;
    states = with_states state (initialised_by program left)
        w.statics.states;
  };
  objects = objects_shown program (all_released_in h t (monitors_of left)).objects;
}
