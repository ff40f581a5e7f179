-- Which thread the machine runs, and turns of the others.
use Rattle.std.specs.Prelude.{◌≡◌, ℕ, List, slice_get, Some}
use Rattle.model.specs.ClassListings.{ClassListing}
use Rattle.instructions.specs.declared.machines.Machine.{Machine}
use Rattle.instructions.specs.PlainRuns.{IsPlainTurn}
use Rattle.instructions.specs.Threads.{ThreadsValue, all_frames}

-- The machine runs another thread: its frames come to it, those that it had are parked, and no other part is another.
pub record IsSwitched (old : ThreadsValue) (machine : Machine) (t : ℕ) (new : ThreadsValue) (after : Machine) : Type 0
  where
    pub courses : new.courses ≡ old.courses
    pub all : all_frames new t after.frames ≡ all_frames old machine.thread machine.frames
    pub frames : slice_get (all_frames old machine.thread machine.frames) t ≡ Some after.frames
    pub thread : after.thread ≡ t
    pub slots : after.slots ≡ machine.slots
    pub states : after.states ≡ machine.states
    pub heap : after.heap ≡ machine.heap
    pub output : after.output ≡ machine.output

-- The turn of a thread is made: it goes on, and asked for no cell. The machine runs the thread that it ran, as though
-- it were given the other for that turn alone.
pub record TurnsApart (program : List ClassListing) (old : ThreadsValue) (machine : Machine) (t : ℕ)
    (new : ThreadsValue) (after : Machine) : Type 0 where
  pub others : ThreadsValue
  pub given : Machine
  pub made : Machine
  pub there : IsSwitched old machine t others given
  pub turn : IsPlainTurn program given made
  pub back : IsSwitched others made machine.thread new after
