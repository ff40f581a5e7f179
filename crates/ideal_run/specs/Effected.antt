use Rattle.std.specs.Prelude.{ℕ, List, [], ◌∷◌, ◌++◌, nat_le, Bool, false, ◌||◌, not, Option, Some, None, Result, Ok}
use Rattle.std.specs.Prelude.{Err, Vec}
use Rattle.std.specs.Global.{Global}
use Rattle.model.specs.declared.journals.Limits.{Limits}
use Rattle.model.specs.declared.turns.ClassState.{ClassState}
use Rattle.model.specs.declared.turns.Abrupt.{Abrupt}
use Rattle.model.specs.declared.turns.Fault.{Fault}
use Rattle.model.specs.declared.turns.Fault.TheVariants.{StackFull, NoInstruction}
use Rattle.model.specs.declared.values.Value.TheVariants.{Ref}
use Rattle.model.specs.Frames.{Frame, Moved, replaced_if_room}
use Rattle.model.specs.Completions as completion
use Rattle.model.specs.Completions.{prints, waits}
use Rattle.model.specs.Effects as effects
use Rattle.model.specs.Effects.Choice.{NewObject, NoRoom}
use Rattle.model.specs.Objects.{with_new}
use Rattle.model.specs.Turns.{passes}
use Rattle.model.specs.Unwinding.{Landing}
use Rattle.model.specs.Unwinding.Landing.{Handled, Stopped, Unhandled}
use Rattle.model.specs.Worlds.{World, Object, with_class_states, with_output}
use Rattle.ideal_run.specs.declared.effects.Choice.{Choice}
use Rattle.ideal_run.specs.declared.effects.Choice.TheVariants as code

-- What a completion does, by what the code has of it.

abbrev pub choice_in : Choice → effects.Choice
choice_in code.NewObject = NewObject
choice_in code.NoRoom = NoRoom

-- class states that differ, if any do, and a new object, if there is one
abbrev pub with_states_in : World → Option (Vec ClassState Global) → World
with_states_in w None = w
with_states_in w (Some states) = with_class_states w states.items

abbrev pub with_new_if : World → Option Object → World
with_new_if w None = w
with_new_if w (Some o) = with_new w o

-- whether a throwable finds no room at its handler
abbrev pub is_full : Landing → Bool
is_full (Handled handler f callers) = not (nat_le 1 f.room)
is_full (Stopped f callers) = false
is_full Unhandled = false

-- what refuses the turn of a thread that lives: it waits, or prints more than the output has room for
abbrev pub refuses : Limits → World → completion.Completion → Bool
refuses limits w c = waits c || passes limits.output w.output (prints c)

-- the frame with a new reference in place of so many operands
abbrev pub frame_or_full : Result Moved Abrupt → Result Frame Fault
frame_or_full (Ok m) = Ok m.frame
frame_or_full (Err abrupt) = Err StackFull

abbrev pub frame_with : ℕ → ℕ → ℕ → Option Frame → Result Frame Fault
frame_with next taken birth None = Err NoInstruction
frame_with next taken birth (Some f) = frame_or_full (replaced_if_room next f taken (Ref (Some birth) ∷ []))

abbrev pub printed : World → List ℕ → World
printed w bytes = with_output w (w.output ++ bytes)
