use Rattle.std.specs.Prelude.{ℕ, List, Bool, true, false, Option, Some, None, Result, Ok, Err}
use Rattle.model.specs.declared.turns.ClassState.{ClassState}
use Rattle.model.specs.declared.turns.Fault.{Fault}
use Rattle.model.specs.declared.turns.Exception.{Exception}
use Rattle.model.specs.declared.turns.Exception.TheVariants.{Arithmetic, NullPointer, ClassCast, NegativeArraySize}
use Rattle.model.specs.declared.turns.Exception.TheVariants.{ArrayStore, IllegalMonitorState, ArrayIndexOutOfBounds}
use Rattle.model.specs.declared.turns.Exception.TheVariants.{IllegalThreadState, StackOverflow, ExceptionInInitializer}
use Rattle.model.specs.declared.turns.Exception.TheVariants.{NoClassDefFound}
use Rattle.model.specs.declared.turns.Abrupt.{Abrupt}
use Rattle.model.specs.declared.turns.Abrupt.TheVariants.{Fault as Faulted, Throw}
use Rattle.model.specs.ClassListings.{ClassListing}
use Rattle.model.specs.Frames.{Frame, Moved, with_running}
use Rattle.model.specs.Worlds.{World, Contents, frames_at, with_thread}
use Rattle.model.specs.Worlds.Thread.{Live}
use Rattle.model.specs.Objects.{words_in}

-- What an instruction comes to (JVMS 2.6.4, 2.6.5), before it is known whether a cell that it asks for is free.
pub data Completion : Type 0 where
  -- the world after it, and the births that it wrote, in the order of writing
  Goes : (after : World) (writes : List ℕ) → Completion
  -- the world after it, but for the bytes that it prints
  Prints : (after : World) (bytes : List ℕ) → Completion
  -- a new object in place of so many values at the top of the running frame's stack, and on to the next instruction
  Creates : (next taken : ℕ) (contents : Contents) → Completion
  -- a throwable that is there
  Throws : (birth : ℕ) → Completion
  -- an exception that the machine makes, and for which it asks for a cell
  Raises : (exception : Exception) → Completion
  -- a class that can't be used, as its initialisation failed: a NoClassDefFoundError, for which the machine asks for a
  -- cell, and the class states with it
  Denies : (states : List ClassState) → Completion
  Faults : (fault : Fault) → Completion
  -- the thread waits, for a monitor or for a thread's end
  Waits : Completion

-- ---- what an answer says of the turn

-- how many words the turn asks a cell for; a throwable has none
abbrev pub asks : Completion → Option ℕ
asks (Goes after writes) = None
asks (Prints after bytes) = None
asks (Creates next taken contents) = Some (words_in contents)
asks (Throws birth) = None
asks (Raises exception) = Some 0
asks (Denies states) = Some 0
asks (Faults fault) = None
asks Waits = None

abbrev pub prints : Completion → Option (List ℕ)
prints (Goes after writes) = None
prints (Prints after bytes) = Some bytes
prints (Creates next taken contents) = None
prints (Throws birth) = None
prints (Raises exception) = None
prints (Denies states) = None
prints (Faults fault) = None
prints Waits = None

abbrev pub waits : Completion → Bool
waits (Goes after writes) = false
waits (Prints after bytes) = false
waits (Creates next taken contents) = false
waits (Throws birth) = false
waits (Raises exception) = false
waits (Denies states) = false
waits (Faults fault) = false
waits Waits = true

-- ---- where an instruction stands

-- a thread's turn as it begins: its running frame stands at an instruction, after which is the next
pub record Site : Type 0 where
  pub program : List ClassListing
  pub world : World
  pub thread : ℕ
  pub frame : Frame
  pub next : ℕ

-- the frames of the thread
abbrev pub frames_in : Site → List Frame
frames_in s = frames_at s.world s.thread

-- the thread's running frame after it
abbrev pub with_frame : World → Site → Frame → World
with_frame w s f = with_thread w s.thread (Live (with_running (frames_in s) f))

-- the running frame alone changes, in a world whose threads are those of the site
abbrev pub moves_in : World → Site → Moved → Completion
moves_in w s m = Goes (with_frame w s m.frame) m.writes

-- StackOverflowError was made before the run, with birth 2; for every other exception the machine asks for a cell
abbrev pub raises : Exception → Completion
raises Arithmetic = Raises Arithmetic
raises NullPointer = Raises NullPointer
raises ClassCast = Raises ClassCast
raises NegativeArraySize = Raises NegativeArraySize
raises ArrayStore = Raises ArrayStore
raises IllegalMonitorState = Raises IllegalMonitorState
raises ArrayIndexOutOfBounds = Raises ArrayIndexOutOfBounds
raises IllegalThreadState = Raises IllegalThreadState
raises StackOverflow = Throws 2
raises ExceptionInInitializer = Raises ExceptionInInitializer
raises NoClassDefFound = Raises NoClassDefFound

abbrev pub completes_abruptly : Abrupt → Completion
completes_abruptly (Faulted fault) = Faults fault
completes_abruptly (Throw exception) = raises exception

-- an instruction that changes the running frame alone
abbrev pub completes : Site → Result Moved Abrupt → Completion
completes s (Ok m) = moves_in s.world s m
completes s (Err abrupt) = completes_abruptly abrupt
