-- Worked loads, stores and increments. The frame stands at pc 3, and the next instruction at pc 4.
use Rattle.std.specs.Prelude.{◌≡◌, pos, negsuc, List, [], ◌∷◌, ◌++◌, replicate, Some, None, refl}
use Rattle.std.specs.Int.{int_wrap}
use Rattle.model.specs.declared.values.Kind.TheVariants.{Int as IntKind, Long as LongKind, Ref as RefKind}
use Rattle.model.specs.declared.values.Value.TheVariants.{Int, Long, Ref}
use Rattle.model.specs.declared.values.Entry.{Entry}
use Rattle.model.specs.declared.values.Entry.TheVariants.{Unset, Holds, UpperHalf}
use Rattle.model.specs.declared.turns.Fault.TheVariants.{StackEmpty, StackFull, WrongKind, WrongLocal}
use Rattle.model.specs.declared.instructions.FirstLocal.TheVariants.{Zero, One, Two, Three}
use Rattle.model.specs.declared.instructions.Local.TheVariants.{First, Byte, Wide}
use Rattle.model.specs.declared.instructions.Increment.TheVariants.{Byte as ByByte, Wide as ByWide}
use Rattle.model.specs.declared.instructions.LocalAccess.TheVariants.{Load, Store, Increment}
use Rattle.model.specs.Table.Locals.{local}
use Rattle.model.proofs.TableRows.Worked.{frame, goes, fails}

-- an int, a long in two entries, a reference, an entry that is unset
abbrev five : List Entry
five = Holds (Int (pos 6)) ∷ Holds (Long (pos 7)) ∷ UpperHalf ∷ Holds (Ref (Some 8)) ∷ Unset ∷ []

-- ---- loads

pub int_loaded : local 4 (Load IntKind (First Zero)) (frame 3 five [] 2) ≡ goes (frame 4 five (Int (pos 6) ∷ []) 2) []
int_loaded = refl

pub long_loaded : local 4 (Load LongKind (First One)) (frame 3 five [] 2) ≡ goes (frame 4 five (Long (pos 7) ∷ []) 2) []
long_loaded = refl

-- a reference is written
pub reference_loaded : local 4 (Load RefKind (First Three)) (frame 3 five (Int (pos 1) ∷ []) 2)
    ≡ goes (frame 4 five (Ref (Some 8) ∷ Int (pos 1) ∷ []) 2) (8 ∷ [])
reference_loaded = refl

-- null is no birth
pub null_loaded : local 4 (Load RefKind (First Zero)) (frame 3 (Holds (Ref None) ∷ []) [] 1)
    ≡ goes (frame 4 (Holds (Ref None) ∷ []) (Ref None ∷ []) 1) []
null_loaded = refl

-- one index in three forms
pub loaded_by_byte : local 5 (Load IntKind (Byte 0)) (frame 3 five [] 1) ≡ goes (frame 5 five (Int (pos 6) ∷ []) 1) []
loaded_by_byte = refl

pub loaded_by_wide : local 7 (Load IntKind (Wide 0)) (frame 3 five [] 1) ≡ goes (frame 7 five (Int (pos 6) ∷ []) 1) []
loaded_by_wide = refl

pub third_loaded : local 4 (Load IntKind (First Two)) (frame 3 (Unset ∷ Unset ∷ Holds (Int (negsuc 0)) ∷ []) [] 1)
    ≡ goes (frame 4 (Unset ∷ Unset ∷ Holds (Int (negsuc 0)) ∷ []) (Int (negsuc 0) ∷ []) 1) []
third_loaded = refl

pub wide_local_loaded : local 7 (Load IntKind (Wide 300)) (frame 3 (replicate 300 Unset ++ Holds (Int (pos 2)) ∷ []) []
    1) ≡ goes (frame 7 (replicate 300 Unset ++ Holds (Int (pos 2)) ∷ []) (Int (pos 2) ∷ []) 1) []
wide_local_loaded = refl

-- F4: no such local, a long of which only one entry would be a local, the upper half of a long as an int and as a long
pub load_past_the_locals : local 4 (Load IntKind (Byte 5)) (frame 3 five [] 2) ≡ fails WrongLocal
load_past_the_locals = refl

pub load_of_half_a_local : local 4 (Load LongKind (Byte 4)) (frame 3 five [] 2) ≡ fails WrongLocal
load_of_half_a_local = refl

pub load_of_an_upper_half : local 4 (Load IntKind (First Two)) (frame 3 five [] 2) ≡ fails WrongLocal
load_of_an_upper_half = refl

pub load_of_a_long_from_its_upper_half : local 4 (Load LongKind (First Two)) (frame 3 five [] 2) ≡ fails WrongLocal
load_of_a_long_from_its_upper_half = refl

-- F3: unset, or of another kind
pub load_of_nothing : local 4 (Load IntKind (Byte 4)) (frame 3 five [] 2) ≡ fails WrongKind
load_of_nothing = refl

pub load_of_a_long_as_int : local 4 (Load IntKind (First One)) (frame 3 five [] 2) ≡ fails WrongKind
load_of_a_long_as_int = refl

pub load_of_an_int_as_reference : local 4 (Load RefKind (First Zero)) (frame 3 five [] 2) ≡ fails WrongKind
load_of_an_int_as_reference = refl

pub load_of_a_reference_as_long : local 4 (Load LongKind (First Three)) (frame 3 five [] 2) ≡ fails WrongKind
load_of_a_reference_as_long = refl

-- F2, and F4 and F3 before it
pub load_without_room : local 4 (Load LongKind (First One)) (frame 3 five [] 1) ≡ fails StackFull
load_without_room = refl

pub local_before_room : local 4 (Load IntKind (Byte 5)) (frame 3 five [] 0) ≡ fails WrongLocal
local_before_room = refl

pub kind_before_room : local 4 (Load IntKind (First One)) (frame 3 five [] 0) ≡ fails WrongKind
kind_before_room = refl

-- ---- stores

pub int_stored : local 4 (Store IntKind (First Zero)) (frame 3 five (Int (pos 1) ∷ Int (pos 2) ∷ []) 2)
    ≡ goes (frame 4 (Holds (Int (pos 1)) ∷ Holds (Long (pos 7)) ∷ UpperHalf ∷ Holds (Ref (Some 8)) ∷ Unset ∷ [])
    (Int (pos 2) ∷ []) 2) []
int_stored = refl

-- a long goes into two entries; each that held half of another long leaves the other half unset
pub long_stored : local 4 (Store LongKind (First Three)) (frame 3 five (Long (pos 9) ∷ []) 2)
    ≡ goes (frame 4 (Holds (Int (pos 6)) ∷ Holds (Long (pos 7)) ∷ UpperHalf ∷ Holds (Long (pos 9)) ∷ UpperHalf ∷ []) []
    2) []
long_stored = refl

pub long_stored_over_two : local 4 (Store LongKind (First One))
    (frame 3 (Holds (Long (pos 1)) ∷ UpperHalf ∷ Holds (Long (pos 2)) ∷ UpperHalf ∷ []) (Long (pos 9) ∷ []) 2)
    ≡ goes (frame 4 (Unset ∷ Holds (Long (pos 9)) ∷ UpperHalf ∷ Unset ∷ []) [] 2) []
long_stored_over_two = refl

pub int_stored_over_an_upper_half : local 4 (Store IntKind (First Two)) (frame 3 five (Int (pos 1) ∷ []) 1)
    ≡ goes (frame 4 (Holds (Int (pos 6)) ∷ Unset ∷ Holds (Int (pos 1)) ∷ Holds (Ref (Some 8)) ∷ Unset ∷ []) [] 1) []
int_stored_over_an_upper_half = refl

pub int_stored_over_a_long : local 4 (Store IntKind (First One)) (frame 3 five (Int (pos 1) ∷ []) 1)
    ≡ goes (frame 4 (Holds (Int (pos 6)) ∷ Holds (Int (pos 1)) ∷ Unset ∷ Holds (Ref (Some 8)) ∷ Unset ∷ []) [] 1) []
int_stored_over_a_long = refl

-- a reference is written
pub reference_stored : local 6 (Store RefKind (Wide 1)) (frame 3 (Unset ∷ Unset ∷ []) (Ref (Some 3) ∷ []) 1)
    ≡ goes (frame 6 (Unset ∷ Holds (Ref (Some 3)) ∷ []) [] 1) (3 ∷ [])
reference_stored = refl

-- F1, F3, F4
pub store_of_nothing : local 4 (Store IntKind (First Zero)) (frame 3 five [] 2) ≡ fails StackEmpty
store_of_nothing = refl

pub store_of_a_long_as_int : local 4 (Store IntKind (First Zero)) (frame 3 five (Long (pos 1) ∷ []) 2) ≡ fails WrongKind
store_of_a_long_as_int = refl

pub store_of_an_int_as_reference : local 4 (Store RefKind (First Zero)) (frame 3 five (Int (pos 1) ∷ []) 2)
    ≡ fails WrongKind
store_of_an_int_as_reference = refl

pub store_past_the_locals : local 4 (Store IntKind (Byte 5)) (frame 3 five (Int (pos 1) ∷ []) 2) ≡ fails WrongLocal
store_past_the_locals = refl

pub store_of_a_long_in_the_last : local 4 (Store LongKind (Byte 4)) (frame 3 five (Long (pos 1) ∷ []) 2)
    ≡ fails WrongLocal
store_of_a_long_in_the_last = refl

-- the operand before the local
pub operand_before_local : local 4 (Store IntKind (Byte 5)) (frame 3 five [] 2) ≡ fails StackEmpty
operand_before_local = refl

pub kind_before_local : local 4 (Store IntKind (Byte 5)) (frame 3 five (Ref None ∷ []) 2) ≡ fails WrongKind
kind_before_local = refl

-- ---- increments

pub increased : local 6 (Increment (ByByte 0 (pos 1))) (frame 3 five [] 0)
    ≡ goes (frame 6 (Holds (Int (pos 7)) ∷ Holds (Long (pos 7)) ∷ UpperHalf ∷ Holds (Ref (Some 8)) ∷ Unset ∷ []) [] 0)
    []
unfolding int_wrap
increased = refl

-- the greatest int and 1 are the least, the least and -32768 wrap too; the stack stays
pub increase_wraps : local 6 (Increment (ByByte 0 (pos 1))) (frame 3 (Holds (Int (pos 2147483647)) ∷ []) (Long (pos 1)
    ∷ []) 2) ≡ goes (frame 6 (Holds (Int (negsuc 2147483647)) ∷ []) (Long (pos 1) ∷ []) 2) []
unfolding int_wrap
increase_wraps = refl

pub decrease_wraps : local 9 (Increment (ByWide 0 (negsuc 32767))) (frame 3 (Holds (Int (negsuc 2147483647)) ∷ []) [] 0)
    ≡ goes (frame 9 (Holds (Int (pos 2147450880)) ∷ []) [] 0) []
unfolding int_wrap
decrease_wraps = refl

pub increase_past_the_locals : local 6 (Increment (ByByte 5 (pos 1))) (frame 3 five [] 0) ≡ fails WrongLocal
increase_past_the_locals = refl

pub increase_of_an_upper_half : local 6 (Increment (ByByte 2 (pos 1))) (frame 3 five [] 0) ≡ fails WrongLocal
increase_of_an_upper_half = refl

pub increase_of_nothing : local 6 (Increment (ByByte 4 (pos 1))) (frame 3 five [] 0) ≡ fails WrongKind
increase_of_nothing = refl

pub increase_of_a_long : local 6 (Increment (ByByte 1 (pos 1))) (frame 3 five [] 0) ≡ fails WrongKind
increase_of_a_long = refl
