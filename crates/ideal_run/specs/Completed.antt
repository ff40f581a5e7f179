use Rattle.std.specs.Prelude.{ℕ, List, [], ◌∷◌, Option, Some, None, Result, Ok, Err}
use Rattle.model.specs.declared.turns.Abrupt.{Abrupt}
use Rattle.model.specs.declared.turns.ClassState.TheVariants.{Done}
use Rattle.model.specs.Completions as completion
use Rattle.model.specs.Completions.{Site, completes_abruptly, frames_in, with_frame}
use Rattle.model.specs.Completions.Completion.{Goes, Prints, Creates, Throws, Raises, Denies, Faults, Waits}
use Rattle.model.specs.Frames.{Frame, with_running, callers, replaced}
use Rattle.model.specs.Initialisation.{with_states}
use Rattle.model.specs.Monitors.{released, with_monitor_of}
use Rattle.model.specs.Table.Returns.{left_world}
use Rattle.model.specs.Table.Threads.{with_more}
use Rattle.model.specs.Views.{contents_in}
use Rattle.model.specs.Words.{with_slot, with_word}
use Rattle.model.specs.Worlds.{World, frames_at, with_thread, with_class_states}
use Rattle.model.specs.Worlds.Thread.{Live}
use Rattle.ideal_run.specs.declared.completions.Change.{Change}
use Rattle.ideal_run.specs.declared.completions.Change.TheVariants.{Nothing, Slot, Word, Monitor, Left, States}
use Rattle.ideal_run.specs.declared.completions.Completion.{Completion}
use Rattle.ideal_run.specs.declared.completions.Completion.TheVariants as code
use Rattle.ideal_run.specs.declared.worlds.Step.{Step}
use Rattle.ideal_run.specs.Steps.{monitor_in, stepped, started_on}

-- What the code's completions say.

abbrev pub initialised_in : World → Option ℕ → World
initialised_in w None = w
initialised_in w (Some class) = with_class_states w (with_states Done (class ∷ []) w.statics.states)

abbrev pub changed : World → ℕ → Change → World
changed w t Nothing = w
changed w t (Slot slot v) = with_slot w slot v
changed w t (Word birth place v) = with_word w birth place v
changed w t (Monitor birth m) = with_monitor_of w birth (monitor_in m)
changed w t (Left monitor class) = initialised_in (released w t monitor) class
changed w t (States states) = with_class_states w states.items

abbrev pub moved_to : World → World → ℕ → Step → World
moved_to w changed t step = with_thread changed t (stepped (frames_at w t) step)

abbrev pub runs_on : World → World → ℕ → Frame → World
runs_on w changed t f = with_thread changed t (Live (with_running (frames_at w t) f))

-- a completion of the definitions, with no births written
abbrev pub reported : World → ℕ → Completion → completion.Completion
reported w t (code.Goes change step) = Goes (moved_to w (changed w t change) t step) []
reported w t (code.Starts birth f thread) = Goes (with_more (runs_on w (started_on w birth) t f) thread) []
reported w t (code.Prints f bytes) = Prints (runs_on w w t f) bytes.items
reported w t (code.Creates next taken contents) = Creates next taken (contents_in contents)
reported w t (code.Throws birth) = Throws birth
reported w t (code.Raises exception) = Raises exception
reported w t (code.Denies states) = Denies states.items
reported w t (code.Faults fault) = Faults fault
reported w t code.Waits = Waits

-- a completion without the births that are written on the way, which only a collector asks for
abbrev pub plainly : completion.Completion → completion.Completion
plainly (Goes after writes) = Goes after []
plainly (Prints after bytes) = Prints after bytes
plainly (Creates next taken contents) = Creates next taken contents
plainly (Throws birth) = Throws birth
plainly (Raises exception) = Raises exception
plainly (Denies states) = Denies states
plainly (Faults fault) = Faults fault
plainly Waits = Waits

-- an instruction that changes the running frame alone
abbrev pub completes_with : Site → Result Frame Abrupt → completion.Completion
completes_with s (Ok f) = Goes (with_frame s.world s f) []
completes_with s (Err abrupt) = completes_abruptly abrupt

-- the caller goes on once the running frame is left
abbrev pub resumes_with : Site → Result Frame Abrupt → completion.Completion
resumes_with s (Ok f) = Goes (with_thread (left_world s) s.thread (Live (with_running (callers (frames_in s)) f))) []
resumes_with s (Err abrupt) = completes_abruptly abrupt

-- so many operands go, in a world that differs in more
abbrev pub pops_in : Site → ℕ → World → completion.Completion
pops_in s n after = Goes (with_frame after s (replaced s.next s.frame n []).frame) []

-- the operand goes once the bytes are printed
abbrev pub prints_in : Site → List ℕ → completion.Completion
prints_in s bytes = Prints (with_frame s.world s (replaced s.next s.frame 1 []).frame) bytes
