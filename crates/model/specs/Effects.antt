use Rattle.std.specs.Prelude.{ℕ, List, [], ◌∷◌, ◌++◌, Result, Ok, Err, Option, Some, None}
use Rattle.model.specs.declared.values.Value.TheVariants.{Ref}
use Rattle.model.specs.declared.turns.Fault.TheVariants.{NoInstruction, StackFull}
use Rattle.model.specs.declared.turns.Exception.{Exception}
use Rattle.model.specs.declared.turns.Exception.TheVariants.{NoClassDefFound}
use Rattle.model.specs.declared.turns.Abrupt.{Abrupt}
use Rattle.model.specs.ClassListings.{ClassListing}
use Rattle.model.specs.Classes.Exceptions.{exception_class}
use Rattle.model.specs.Frames.{Frame, Moved, running, with_running, replaced_if_room}
use Rattle.model.specs.Worlds.{World, Contents, frames_at, next_birth, with_thread, with_class_states, with_output}
use Rattle.model.specs.Worlds.{plain_object}
use Rattle.model.specs.Worlds.Thread.{Live}
use Rattle.model.specs.Objects.{made_of, with_new}
use Rattle.model.specs.Results.{Effect, faulted}
use Rattle.model.specs.Completions.{Completion}
use Rattle.model.specs.Completions.Completion.{Goes, Prints, Creates, Throws, Raises, Denies, Faults, Waits}
use Rattle.model.specs.Unwinding.{thrown}

-- What a completion does, once it is chosen whether a cell that it asks for is free.

-- whether a cell had room; where none is asked for the choice counts for nothing
pub data Choice : Type 0 where
  NewObject : Choice
  NoRoom : Choice

-- the new object is there, and its reference on the stack; F2 where it has no room
abbrev pub created_with : World → ℕ → Contents → Result Moved Abrupt → Effect
created_with w t contents (Ok m) = record {
  after = with_thread (with_new w (made_of contents)) t (Live (with_running (frames_at w t) m.frame));
  writes = m.writes;
}
created_with w t contents (Err abrupt) = faulted w t StackFull

abbrev pub created_on : World → ℕ → ℕ → ℕ → Contents → Option Frame → Effect
created_on w t next taken contents None = faulted w t NoInstruction
created_on w t next taken contents (Some f) = created_with w t contents
    (replaced_if_room next f taken (Ref (Some (next_birth w)) ∷ []))

abbrev pub created : List ClassListing → World → ℕ → ℕ → ℕ → Contents → Choice → Effect
created program w t next taken contents NewObject = created_on w t next taken contents (running (frames_at w t))
created program w t next taken contents NoRoom = thrown program w w t 1

-- a new exception is thrown, or the OutOfMemoryError that was made before the run, in a world that may differ from the
-- one before the turn in its class states
abbrev pub raised : List ClassListing → World → World → ℕ → Exception → Choice → Effect
raised program before w t exception NewObject =
    thrown program before (with_new w (plain_object (exception_class exception))) t (next_birth w)
raised program before w t exception NoRoom = thrown program before w t 1

abbrev pub effect_of : List ClassListing → World → ℕ → Choice → Completion → Effect
effect_of program w t choice (Goes after writes) = record { after = after; writes = writes }
effect_of program w t choice (Prints after bytes) = record {
  after = with_output after (after.output ++ bytes);
  writes = [];
}
effect_of program w t choice (Creates next taken contents) = created program w t next taken contents choice
effect_of program w t choice (Throws birth) = thrown program w w t birth
effect_of program w t choice (Raises exception) = raised program w w t exception choice
effect_of program w t choice (Denies states) = raised program w (with_class_states w states) t NoClassDefFound choice
effect_of program w t choice (Faults fault) = faulted w t fault
effect_of program w t choice Waits = record { after = w; writes = [] }
