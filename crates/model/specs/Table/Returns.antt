use Rattle.std.specs.Prelude.{ℕ, [], ◌∷◌, Bool, true, false, Option, Some, None, Result, Ok, Err}
use Rattle.model.specs.declared.values.Kind.{Kind}
use Rattle.model.specs.declared.values.Kind.TheVariants.{Int, Long, Ref}
use Rattle.model.specs.declared.values.Value.{Value}
use Rattle.model.specs.declared.listings.Method.{Method}
use Rattle.model.specs.declared.listings.Placed.{Placed}
use Rattle.model.specs.declared.turns.Fault.{Fault}
use Rattle.model.specs.declared.turns.Fault.TheVariants.{NoInstruction, WrongReturn}
use Rattle.model.specs.declared.turns.Abrupt.{Abrupt}
use Rattle.model.specs.declared.turns.ClassState.TheVariants.{Done as Initialised}
use Rattle.model.specs.declared.turns.Mark.TheVariants.{Unmarked}
use Rattle.model.specs.declared.turns.Abrupt.TheVariants.{Fault as Faulted}
use Rattle.model.specs.Signatures.{result_kind}
use Rattle.model.specs.Frames.{Frame, Moved, running, with_running, callers, replaced, replaced_if_room}
use Rattle.model.specs.Locals.{value_on}
use Rattle.model.specs.Programs.{method_at, instruction_of}
use Rattle.model.specs.Initialisation.{runs_initializer, with_states}
use Rattle.model.specs.Worlds.{World, with_thread, with_class_states}
use Rattle.model.specs.Worlds.Thread.{Live, Ended}
use Rattle.model.specs.Monitors.{released}
use Rattle.model.specs.Completions.{Completion, Site, frames_in, completes_abruptly}
use Rattle.model.specs.Completions.Completion.{Goes, Faults}

-- ---- whether the opcode is that of the method's result

abbrev pub same_kind : Kind → Kind → Bool
same_kind Int Int = true
same_kind Int Long = false
same_kind Int Ref = false
same_kind Long Int = false
same_kind Long Long = true
same_kind Long Ref = false
same_kind Ref Int = false
same_kind Ref Long = false
same_kind Ref Ref = true

abbrev pub same_result : Option Kind → Option Kind → Bool
same_result None None = true
same_result None (Some kind) = false
same_result (Some kind) None = false
same_result (Some kind) (Some other) = same_kind kind other

abbrev pub gives : Option Kind → Option Method → Bool
gives kind None = false
gives kind (Some method) = same_result kind (result_kind method.descriptor)

-- ---- the frame is left

-- a caller stays at its invoke instruction until the return, and then goes on after it with the result, if there is one
abbrev pub past_invoke : Frame → Option Value → Option Placed → Result Moved Abrupt
past_invoke f result None = Err (Faulted NoInstruction)
past_invoke f None (Some invoke) = Ok (replaced invoke.next f 0 [])
past_invoke f (Some value) (Some invoke) = replaced_if_room invoke.next f 0 (value ∷ [])

-- the class of an initializer that returns is initialised
abbrev pub initialised_if : World → ℕ → Bool → World
initialised_if w class true = with_class_states w (with_states Initialised (class ∷ []) w.statics.states)
initialised_if w class false = w

-- the world without the frame's hold on its method monitor
abbrev pub left_world : Site → World
left_world s = initialised_if (released s.world s.thread s.frame.monitor) s.frame.method.class
    (runs_initializer s.program s.frame)

-- what waits below an initializer goes on, and any other frame tries its instruction again
abbrev pub awake : Frame → Frame
awake f = record f { mark = Unmarked }

abbrev pub resumed : Site → Frame → Option Value → Bool → Result Moved Abrupt
resumed s caller result true = Ok (record { frame = awake caller; writes = [] })
resumed s caller result false = past_invoke caller result (instruction_of s.program caller)

abbrev pub resumes : Site → Result Moved Abrupt → Completion
resumes s (Err abrupt) = completes_abruptly abrupt
resumes s (Ok m) = Goes (with_thread (left_world s) s.thread (Live (with_running (callers (frames_in s)) m.frame)))
    m.writes

-- the thread of the outermost frame ends
abbrev pub leaves_to : Site → Option Value → Option Frame → Completion
leaves_to s result None = Goes (with_thread (left_world s) s.thread (Ended None)) []
leaves_to s result (Some caller) = resumes s (resumed s caller result (runs_initializer s.program s.frame))

abbrev pub leaves_with : Site → Option Value → Completion
leaves_with s result = leaves_to s result (running (callers (frames_in s)))

abbrev pub leaves_if : Site → Result Value Fault → Completion
leaves_if s (Err fault) = Faults fault
leaves_if s (Ok value) = leaves_with s (Some value)

abbrev pub return_if : Site → Option Kind → Bool → Completion
return_if s kind false = Faults WrongReturn
return_if s None true = leaves_with s None
return_if s (Some kind) true = leaves_if s (value_on kind s.frame.stack)

-- returns (JVMS 6.5): F7, then the operand, then the room in the caller
abbrev pub returned : Site → Option Kind → Completion
returned s kind = return_if s kind (gives kind (method_at s.program s.frame.method))
