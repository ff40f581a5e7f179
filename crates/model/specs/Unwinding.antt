use Rattle.std.specs.Prelude.{ℕ, List, [], ◌∷◌, ◌++◌, map, filter, reverse, nat_le, nat_lt, codes, Bool, true, false}
use Rattle.std.specs.Prelude.{◌&&◌, not, Option, Some, None, if◌then◌else◌}
use Rattle.std.specs.List.{find}
use Rattle.std.specs.Option.{option_map}
use Rattle.model.specs.declared.listings.ExceptionRow.{ExceptionRow}
use Rattle.model.specs.declared.values.Value.TheVariants.{Ref}
use Rattle.model.specs.declared.turns.ClassState.TheVariants.{Failed}
use Rattle.model.specs.declared.turns.Fault.TheVariants.{StackFull}
use Rattle.model.specs.declared.turns.Mark.{Mark}
use Rattle.model.specs.declared.turns.Mark.TheVariants.{Unmarked, Waiting, Failing}
use Rattle.model.specs.CodeListings.{CodeListing}
use Rattle.model.specs.ClassListings.{ClassListing}
use Rattle.model.specs.Classes.Subclasses.{is_subclass}
use Rattle.model.specs.Programs.{code_at}
use Rattle.model.specs.Initialisation.{runs_initializer, with_states}
use Rattle.model.specs.Frames.{Frame}
use Rattle.model.specs.Worlds.{World, frames_at, with_thread, with_class_states}
use Rattle.model.specs.Worlds.Thread.{Live, Ended}
use Rattle.model.specs.Objects.{class_at}
use Rattle.model.specs.Monitors.{released_all}
use Rattle.model.specs.Results.{Effect, faulted}

-- What becomes of a throwable (JVMS 2.10): the innermost frame with a fitting row handles it, frames inside of it are
-- left, and where no frame handles it the thread ends by its class. A class initializer that handles no throwable fails
-- (JVMS 5.5).

-- ---- which row fits

abbrev pub takes : List ClassListing → List ℕ → Option (List ℕ) → Bool
takes program class None = true
takes program class (Some above) = is_subclass program class above

-- the pc lies in the row's range, and the row takes the class
abbrev pub fits : List ClassListing → List ℕ → ℕ → ExceptionRow → Bool
fits program class pc row = nat_le row.start pc && nat_lt pc row.end && takes program class row.class

abbrev pub handler_in : List ClassListing → List ℕ → ℕ → Option CodeListing → Option ℕ
handler_in program class pc None = None
handler_in program class pc (Some code) = option_map (λ (row : ExceptionRow). row.handler)
    (find (fits program class pc) code.rows)

-- the handler of a frame for a class of throwables: that of the first row that fits. The rows of a frame that waits for
-- an initializer above it, or that fails, aren't tried
abbrev pub handler_of : List ClassListing → List ℕ → Frame → Mark → Option ℕ
handler_of program class f Unmarked = handler_in program class f.pc (code_at program f.method)
handler_of program class f Waiting = None
handler_of program class f Failing = None

-- ---- what a frame does with a throwable

pub data Response : Type 0 where
  Handles : (handler : ℕ) → Response
  -- an initializer is left by no Error: the next turn of its thread throws an ExceptionInInitializerError in its place
  Fails : Response
  Leaves : Response

abbrev pub responds : Option ℕ → Bool → Response
responds (Some handler) fails = Handles handler
responds None true = Fails
responds None false = Leaves

abbrev pub is_error : List ClassListing → List ℕ → Bool
is_error program class = is_subclass program class (codes "java/lang/Error")

abbrev pub response_of : List ClassListing → List ℕ → Frame → Response
response_of program class f = responds (handler_of program class f f.mark) (runs_initializer program f
    && not (is_error program class))

-- ---- where a throwable lands, and the frames that are left on its way; frames stand innermost first

pub data Landing : Type 0 where
  -- at a handler of a frame, with its callers
  Handled : (handler : ℕ) (frame : Frame) (callers : List Frame) → Landing
  -- at an initializer that fails
  Stopped : (frame : Frame) (callers : List Frame) → Landing
  Unhandled : Landing

pub record Way : Type 0 where
  pub landing : Landing
  pub left : List Frame

abbrev pub way_from : Frame → List Frame → Response → Way → Way
way_from f fs (Handles handler) further = record { landing = Handled handler f fs; left = [] }
way_from f fs Fails further = record { landing = Stopped f fs; left = [] }
way_from f fs Leaves further = record { landing = further.landing; left = f ∷ further.left }

abbrev pub way_of : List ClassListing → List ℕ → List Frame → Way
way_of program class [] = record { landing = Unhandled; left = [] }
way_of program class (f ∷ fs) = way_from f fs (response_of program class f) (way_of program class fs)

-- ---- the turn

-- the handler finds the throwable alone on its stack
abbrev pub handling : ℕ → ℕ → Frame → Frame
handling birth handler f = record f { pc = handler; stack = Ref (Some birth) ∷ [] }

abbrev pub failing : Frame → Frame
failing f = record f { stack = []; mark = Failing }

-- F2, as of the world before, where the handler's stack has no room
abbrev pub landed : World → World → ℕ → ℕ → List ℕ → Landing → Effect
landed before w t birth class Unhandled = record { after = with_thread w t (Ended (Some class)); writes = [] }
landed before w t birth class (Stopped f callers) = record {
  after = with_thread w t
      (Live (reverse callers ++ failing f ∷ []));
  writes = [];
}
landed before w t birth class (Handled handler f callers) =
    if nat_le 1 f.room
    then record {
      after = with_thread w t (Live (reverse callers ++ handling birth handler f ∷ []));
      writes = birth ∷ [];
    }
    else faulted before t StackFull

-- the classes whose initializers are among these frames
abbrev pub initialised_by : List ClassListing → List Frame → List ℕ
initialised_by program frames = map (λ (f : Frame). f.method.class) (filter (runs_initializer program) frames)

-- frames are left: their method monitors are released, and the classes that they initialise have failed
abbrev pub without : List ClassListing → World → ℕ → List Frame → World
without program w t left =
    with_class_states (released_all w t (map (λ (f : Frame). f.monitor) left))
    (with_states Failed (initialised_by program left) w.statics.states)

abbrev pub unwound : List ClassListing → World → World → ℕ → ℕ → List ℕ → Way → Effect
unwound program before w t birth class way = landed before (without program w t way.left) t birth class way.landing

-- a thread's turn that ends with a throwable, made in it or not: the world before the turn, and the one with the
-- throwable
abbrev pub thrown : List ClassListing → World → World → ℕ → ℕ → Effect
thrown program before w t birth = unwound program before w t birth (class_at w birth)
    (way_of program (class_at w birth) (reverse (frames_at w t)))
