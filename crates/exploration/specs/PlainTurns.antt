use Rattle.std.specs.Prelude.{◌≡◌, ◌==◌, ◌≤◌, ℕ, ◌+◌, length, nat_le, nat_lt, slice_get, slice_index_or, Bool, true, false}
use Rattle.std.specs.Prelude.{not, ◌&&◌, is_none, Some, None, Option, List}
use Rattle.std.specs.List.{list_all, list_any}
use Rattle.std.specs.Option.{option_map_or}
use Rattle.model.specs.declared.instructions.Instruction.TheVariants.{Nop, Constant, Local, Stack, Number, Branch}
use Rattle.model.specs.declared.instructions.Instruction.TheVariants.{TableSwitch, LookupSwitch, Return}
use Rattle.model.specs.declared.instructions.Instruction.TheVariants.{Static as StaticField, Field, Array, Class}
use Rattle.model.specs.declared.instructions.Instruction.TheVariants.{Invoke, Throw, Monitor}
use Rattle.model.specs.declared.instructions.Invocation.{Invocation}
use Rattle.model.specs.declared.instructions.Invocation.TheVariants.{Virtual, Special, Static, Interface}
use Rattle.model.specs.declared.turns.ClassState.{ClassState}
use Rattle.model.specs.declared.turns.ClassState.TheVariants.{Unused, Running, Done, Failed}
use Rattle.model.specs.declared.values.Value.{Value}
use Rattle.model.specs.declared.values.Value.TheVariants.{Int, Long, Ref}
use Rattle.model.specs.ClassListings.{ClassListing}
use Rattle.model.specs.Completions.{Completion, asks}
use Rattle.model.specs.Effects.{effect_of}
use Rattle.model.specs.Effects.Choice.{NewObject}
use Rattle.model.specs.Frames.{Frame, running}
use Rattle.model.specs.Initialisation.{declares_initializer, runs_initializer}
use Rattle.model.specs.Table.Next.{Listed}
use Rattle.model.specs.Worlds.{World, frames_at}
use Rattle.exploration.specs.Reduction.{IsSettledAt, thread_initialises}

-- How a turn that was made shows that it was a plain step.

-- it asks for no cell, and there is no fault after it
abbrev pub IsQuiet : List ClassListing → World → ℕ → Completion → Type 0
IsQuiet program w t c = (asks c ≡ None) × ((effect_of program w t NewObject c).after.fault ≡ None)

-- ---- an instruction of the running frame

-- whether an instruction changes the running frame alone, where it neither throws nor is at fault
abbrev pub is_plain : Listed → Bool
is_plain Nop = true
is_plain (Constant c) = true
is_plain (Local access) = true
is_plain (Stack operation) = true
is_plain (Number operation) = true
is_plain (Branch test target) = true
is_plain (TableSwitch table) = true
is_plain (LookupSwitch lookup) = true
is_plain (Return kind) = false
is_plain (StaticField access member) = false
is_plain (Field access member) = false
is_plain (Array operation) = false
is_plain (Class operation name) = false
is_plain (Invoke invocation member) = false
is_plain Throw = false
is_plain (Monitor operation) = false

-- ---- a return

-- a frame gives no monitor back when it is left, and runs no initializer
abbrev pub is_plain_frame : List ClassListing → Frame → Bool
is_plain_frame program f = is_none f.monitor && not (runs_initializer program f)

-- there is a caller below it
abbrev pub may_return : List ClassListing → List Frame → Frame → Bool
may_return program frames f = nat_le 2 (length frames) && is_plain_frame program f

-- ---- a call

-- a value is no reference to an object that is yet to be made
abbrev pub is_made : ℕ → Value → Bool
is_made births (Int z) = true
is_made births (Long z) = true
is_made births (Ref None) = true
is_made births (Ref (Some birth)) = nat_lt birth births

abbrev pub is_done : ClassState → Bool
is_done Unused = false
is_done (Running thread) = false
is_done Done = true
is_done Failed = false

-- the class of a place is initialised for good
abbrev pub is_settled : List ClassListing → World → ℕ → Bool
is_settled program w class = is_done (slice_index_or w.statics.states class Done)
    && (not (option_map_or declares_initializer (slice_get program class) false)
    && not (list_any (thread_initialises program class) w.threads))

-- only a static method's class may have to be initialised first
abbrev pub is_settled_for : List ClassListing → World → Invocation → ℕ → Bool
is_settled_for program w Virtual class = true
is_settled_for program w Special class = true
is_settled_for program w Static class = is_settled program w class
is_settled_for program w (Interface count) class = true

abbrev pub has_one_more : List Frame → List Frame → Bool
has_one_more before after = length after == length before + 1

-- a frame was entered, if there is one: it is one more, and nothing else was changed
abbrev pub entered_with : List ClassListing → World → ℕ → Frame → Invocation → World → Option Frame → Bool
entered_with program w t caller invocation v None = false
entered_with program w t caller invocation v (Some frame) =
    (has_one_more (frames_at w t) (frames_at v t) && is_plain_frame program frame)
    && (list_all (is_made (length w.objects)) caller.stack && is_settled_for program w invocation frame.method.class)

abbrev pub has_entered : List ClassListing → World → ℕ → Frame → Invocation → World → Bool
has_entered program w t caller invocation v = entered_with program w t caller invocation v (running (frames_at v t))

-- ---- what these tests tell

abbrev pub IsPlainFrame : List ClassListing → Frame → Type 0
IsPlainFrame program f = (f.monitor ≡ None) × (runs_initializer program f ≡ false)

abbrev pub MayReturn : List ClassListing → List Frame → Frame → Type 0
MayReturn program frames f = IsPlainFrame program f × (2 ≤ length frames)

abbrev pub IsSettledFor : List ClassListing → World → Invocation → ℕ → Type 0
IsSettledFor program w Virtual class = Unit {0}
IsSettledFor program w Special class = Unit {0}
IsSettledFor program w Static class = IsSettledAt program w class
IsSettledFor program w (Interface count) class = Unit {0}

pub record HasEntered (program : List ClassListing) (w : World) (t : ℕ) (caller : Frame) (invocation : Invocation)
    (v : World) : Type 0 where
  pub frame : Frame
  pub runs : running (frames_at v t) ≡ Some frame
  pub more : length (frames_at v t) ≡ length (frames_at w t) + 1
  pub unheld : frame.monitor ≡ None
  pub no_initializer : runs_initializer program frame ≡ false
  pub made : list_all (is_made (length w.objects)) caller.stack ≡ true
  pub settled : IsSettledFor program w invocation frame.method.class
