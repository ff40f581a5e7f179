use Rattle.std.specs.Prelude.{◌≡◌, ℕ, ◌+◌, ◌-◌, ℤ, List, [], ◌∷◌, length, drop, take, replicate, slice_get, slice_set}
use Rattle.std.specs.Prelude.{slice_index_or, nat_le, nat_lt, ◌&&◌, Option, None, Result, Ok, Err, Bool, if◌then◌else◌}
use Rattle.model.specs.declared.values.Value.{Value}
use Rattle.model.specs.declared.values.Value.TheVariants.{Int, Long, Ref}
use Rattle.model.specs.declared.values.Entry.{Entry}
use Rattle.model.specs.declared.values.Entry.TheVariants.{Unset}
use Rattle.model.specs.declared.places.MethodPlace.{MethodPlace}
use Rattle.model.specs.declared.turns.Mark.{Mark}
use Rattle.model.specs.declared.turns.Mark.TheVariants.{Unmarked}
use Rattle.model.specs.declared.turns.Fault.{Fault}
use Rattle.model.specs.declared.turns.Fault.TheVariants.{StackEmpty, StackFull, WrongKind}
use Rattle.model.specs.declared.turns.Abrupt.{Abrupt}
use Rattle.model.specs.declared.turns.Abrupt.TheVariants.{Fault as Faulted}
use Rattle.model.specs.Values.{births_of, units_of_all}

-- a frame (JVMS 2.6): the stack has its top first and room for so many units; the monitor is the one to be given back
-- when the frame is left; the mark says what class initialisation wants of the frame
pub record Frame : Type 0 where
  pub method : MethodPlace
  pub pc : ℕ
  pub locals : List Entry
  pub stack : List Value
  pub room : ℕ
  pub monitor : Option ℕ
  pub mark : Mark

-- the frame of a method at its start, its locals all unset
abbrev pub opening_frame : MethodPlace → ℕ → ℕ → Frame
opening_frame method max_locals max_stack = record {
  method = method;
  pc = 0;
  locals = replicate max_locals Unset;
  stack = [];
  room = max_stack;
  monitor = None;
  mark = Unmarked;
}

-- a frame that gives back no monitor when it is left, and neither waits nor fails
abbrev pub IsPlain : Frame → Type 0
IsPlain f = (f.monitor ≡ None) × (f.mark ≡ Unmarked)

-- ---- the frames of a thread, outermost first: the last one runs

abbrev pub running : List Frame → Option Frame
running frames = slice_get frames (length frames - 1)

-- the same where a frame is known to run; where none does, a frame that no program has
abbrev pub no_frame : Frame
no_frame = opening_frame (record { class = 0; method = 0 }) 0 0

abbrev pub running_frame : List Frame → Frame
running_frame frames = slice_index_or frames (length frames - 1) no_frame

abbrev pub with_running : List Frame → Frame → List Frame
with_running frames f = slice_set frames (length frames - 1) f

-- the callers of the running frame
abbrev pub callers : List Frame → List Frame
callers frames = take (length frames - 1) frames

-- a frame takes as many units as its locals and its stack have room for
abbrev pub units_of_frames : List Frame → ℕ
units_of_frames [] = 0
units_of_frames (f ∷ fs) = length f.locals + f.room + units_of_frames fs

-- a thread has at most 256 frames, of 4,096 units in all: whether there is room for another frame
abbrev pub has_room_for : List Frame → ℕ → ℕ → Bool
has_room_for frames max_locals max_stack = nat_lt (length frames) 256
    && nat_le (units_of_frames frames + max_locals + max_stack) 4096

-- the same of all of a thread's frames
abbrev pub within_limits : List Frame → Bool
within_limits frames = nat_le (length frames) 256 && nat_le (units_of_frames frames) 4096

-- ---- what an instruction finds on a stack: the operands from the top, each tested when it is popped

abbrev pub top_of : List Value → Result Value Fault
top_of [] = Err StackEmpty
top_of (v ∷ vs) = Ok v

abbrev pub as_int : Result Value Fault → Result ℤ Fault
as_int (Err e) = Err e
as_int (Ok (Int z)) = Ok z
as_int (Ok (Long z)) = Err WrongKind
as_int (Ok (Ref r)) = Err WrongKind

abbrev pub as_long : Result Value Fault → Result ℤ Fault
as_long (Err e) = Err e
as_long (Ok (Int z)) = Err WrongKind
as_long (Ok (Long z)) = Ok z
as_long (Ok (Ref r)) = Err WrongKind

abbrev pub as_ref : Result Value Fault → Result (Option ℕ) Fault
as_ref (Err e) = Err e
as_ref (Ok (Int z)) = Err WrongKind
as_ref (Ok (Long z)) = Err WrongKind
as_ref (Ok (Ref r)) = Ok r

abbrev pub both : {A B : Type 0} → Result A Fault → Result B Fault → Result (A × B) Fault
both (Err e) second = Err e
both (Ok x) (Err e) = Err e
both (Ok x) (Ok y) = Ok (x, y)

abbrev pub int_on : List Value → Result ℤ Fault
int_on stack = as_int (top_of stack)

abbrev pub long_on : List Value → Result ℤ Fault
long_on stack = as_long (top_of stack)

abbrev pub ref_on : List Value → Result (Option ℕ) Fault
ref_on stack = as_ref (top_of stack)

-- two operands, the upper one first
abbrev pub two_ints_on : List Value → Result (ℤ × ℤ) Fault
two_ints_on stack = both (int_on stack) (int_on (drop 1 stack))

abbrev pub two_longs_on : List Value → Result (ℤ × ℤ) Fault
two_longs_on stack = both (long_on stack) (long_on (drop 1 stack))

abbrev pub two_refs_on : List Value → Result (Option ℕ × Option ℕ) Fault
two_refs_on stack = both (ref_on stack) (ref_on (drop 1 stack))

-- an int above a long, as a shift of a long wants them
abbrev pub count_and_long_on : List Value → Result (ℤ × ℤ) Fault
count_and_long_on stack = both (int_on stack) (long_on (drop 1 stack))

-- ---- what an instruction leaves

-- values, bottom first, on top of a stack
abbrev pub push_all : List Value → List Value → List Value
push_all [] stack = stack
push_all (v ∷ vs) stack = push_all vs (v ∷ stack)

-- a frame, and the births that were written on the way to it, in order
pub record Moved : Type 0 where
  pub frame : Frame
  pub writes : List ℕ

-- these values, bottom first, in place of the n at the top, and on to the next instruction
abbrev pub replaced : ℕ → Frame → ℕ → List Value → Moved
replaced next f n vs = record {
  frame = record f { pc = next; stack = push_all vs (drop n f.stack) };
  writes = births_of vs;
}

-- the same where they have room, else F2
abbrev pub replaced_if_room : ℕ → Frame → ℕ → List Value → Result Moved Abrupt
replaced_if_room next f n vs = if nat_le (units_of_all (push_all vs (drop n f.stack))) f.room
    then Ok (replaced next f n vs) else Err (Faulted StackFull)
