use Rattle.std.specs.Prelude.{ℕ, ◌+◌, ◌-◌, List, [], ◌∷◌, ◌++◌, length, drop, take, reverse, replicate, slice_get}
use Rattle.std.specs.Prelude.{slice_set, nat_le, Option, Some, None, Result, Ok, Err, Bool, true, false}
use Rattle.model.specs.declared.values.Kind.{Kind}
use Rattle.model.specs.declared.values.Kind.TheVariants.{Int as IntKind, Long as LongKind, Ref as RefKind}
use Rattle.model.specs.declared.values.Value.{Value}
use Rattle.model.specs.declared.values.Value.TheVariants.{Int, Long, Ref}
use Rattle.model.specs.declared.values.Entry.{Entry}
use Rattle.model.specs.declared.values.Entry.TheVariants.{Unset, Holds, UpperHalf}
use Rattle.model.specs.declared.places.MethodPlace.{MethodPlace}
use Rattle.model.specs.declared.turns.Fault.{Fault}
use Rattle.model.specs.declared.turns.Fault.TheVariants.{WrongKind, WrongLocal}
use Rattle.model.specs.declared.turns.Abrupt.{Abrupt}
use Rattle.model.specs.declared.turns.Abrupt.TheVariants.{Fault as Faulted}
use Rattle.model.specs.Values.{births_of, units_of_all}
use Rattle.model.specs.Frames.{Frame, Moved, top_of, opening_frame, running_frame, with_running}

-- The locals of a frame (JVMS 2.6.1).

-- the entries that a value of a kind takes
abbrev pub entries_of : Kind → ℕ
entries_of IntKind = 1
entries_of LongKind = 2
entries_of RefKind = 1

-- whether there is a local of this kind at this index
abbrev pub has_local : Kind → List Entry → ℕ → Bool
has_local kind locals index = nat_le (index + entries_of kind) (length locals)

-- ---- what an instruction finds

-- a value of the kind that is wanted, else F3
abbrev pub of_kind : Kind → Value → Result Value Fault
of_kind IntKind (Int z) = Ok (Int z)
of_kind IntKind (Long z) = Err WrongKind
of_kind IntKind (Ref r) = Err WrongKind
of_kind LongKind (Int z) = Err WrongKind
of_kind LongKind (Long z) = Ok (Long z)
of_kind LongKind (Ref r) = Err WrongKind
of_kind RefKind (Int z) = Err WrongKind
of_kind RefKind (Long z) = Err WrongKind
of_kind RefKind (Ref r) = Ok (Ref r)

abbrev pub as_kind : Kind → Result Value Fault → Result Value Fault
as_kind kind (Err e) = Err e
as_kind kind (Ok v) = of_kind kind v

-- an operand of this kind at the top of a stack
abbrev pub value_on : Kind → List Value → Result Value Fault
value_on kind stack = as_kind kind (top_of stack)

-- an entry that is unset or of another kind is F3, the upper half of a long F4
abbrev pub value_in_entry : Kind → Option Entry → Result Value Fault
value_in_entry kind None = Err WrongLocal
value_in_entry kind (Some Unset) = Err WrongKind
value_in_entry kind (Some (Holds v)) = of_kind kind v
value_in_entry kind (Some UpperHalf) = Err WrongLocal

-- a local out of range is F4
abbrev pub value_if_local : Kind → Bool → Option Entry → Result Value Fault
value_if_local kind true entry = value_in_entry kind entry
value_if_local kind false entry = Err WrongLocal

-- the value of this kind in a local
abbrev pub local_at : Kind → List Entry → ℕ → Result Value Fault
local_at kind locals index = value_if_local kind (has_local kind locals index) (slice_get locals index)

-- ---- what an instruction leaves

-- where one half of a long goes from this entry, the other half becomes unset
abbrev pub without_half : List Entry → ℕ → Option Entry → List Entry
without_half locals index None = locals
without_half locals index (Some Unset) = locals
without_half locals index (Some (Holds (Int z))) = locals
without_half locals index (Some (Holds (Long z))) = slice_set locals (index + 1) Unset
without_half locals index (Some (Holds (Ref r))) = locals
without_half locals index (Some UpperHalf) = slice_set locals (index - 1) Unset

abbrev pub freed : List Entry → ℕ → List Entry
freed locals index = without_half locals index (slice_get locals index)

-- a value in a local: a long takes two, its value and its upper half
abbrev pub with_local : List Entry → ℕ → Value → List Entry
with_local locals index (Int z) = slice_set (freed locals index) index (Holds (Int z))
with_local locals index (Long z) = slice_set (slice_set (freed (freed locals index) (index + 1)) index (Holds (Long z)))
    (index + 1) UpperHalf
with_local locals index (Ref r) = slice_set (freed locals index) index (Holds (Ref r))

-- so many values go from the top, one is put into a local, and on to the next instruction
abbrev pub stored : ℕ → Frame → ℕ → ℕ → Value → Moved
stored next f n index v = record {
  frame = record f {
    pc = next;
    locals = with_local f.locals index v;
    stack = drop n f.stack;
  };
  writes = births_of (v ∷ []);
}

-- the operand that was found goes into a local, if there is one; else F4
abbrev pub stored_if_local : ℕ → Frame → ℕ → Bool → Result Value Fault → Result Moved Abrupt
stored_if_local next f index has (Err e) = Err (Faulted e)
stored_if_local next f index true (Ok v) = Ok (stored next f 1 index v)
stored_if_local next f index false (Ok v) = Err (Faulted WrongLocal)

-- the operand at the top goes into a local of its kind
abbrev pub stored_at : ℕ → Kind → ℕ → Frame → Result Moved Abrupt
stored_at next kind index f = stored_if_local next f index (has_local kind f.locals index) (value_on kind f.stack)

-- ---- calls: the arguments stand in the first locals, a long in two, and the others are unset

abbrev pub argument_entries : List Value → List Entry
argument_entries [] = []
argument_entries (Int z ∷ vs) = Holds (Int z) ∷ argument_entries vs
argument_entries (Long z ∷ vs) = Holds (Long z) ∷ UpperHalf ∷ argument_entries vs
argument_entries (Ref r ∷ vs) = Holds (Ref r) ∷ argument_entries vs

abbrev pub called_frame : MethodPlace → ℕ → ℕ → List Value → Frame
called_frame method max_locals max_stack arguments = record (opening_frame method max_locals max_stack)
    { locals = argument_entries arguments ++ replicate (max_locals - units_of_all arguments) Unset }

-- the n values at the top of a stack, the lowest first
abbrev pub arguments_on : ℕ → List Value → List Value
arguments_on n stack = reverse (take n stack)

-- the running frame gives so many values from the top of its stack to the frame of a method
abbrev pub frames_of_call : List Frame → MethodPlace → ℕ → ℕ → ℕ → List Frame
frames_of_call frames method max_locals max_stack n = with_running frames
    (record (running_frame frames) { stack = drop n (running_frame frames).stack })
    ++ called_frame method max_locals max_stack (arguments_on n (running_frame frames).stack) ∷ []
