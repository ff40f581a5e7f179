-- Worked rows of newarray, anewarray, arraylength, and loads and stores of elements (JVMS 6.5).
use Rattle.std.specs.Prelude.{◌≡◌, ℕ, pos, negsuc, List, [], ◌∷◌, Some, codes, refl}
use Rattle.std.specs.Int.{int_wrap}
use Rattle.model.specs.declared.instructions.ArrayOperation.{ArrayOperation}
use Rattle.model.specs.declared.instructions.ArrayOperation.TheVariants.{New, NewOf, Length, Load, Store}
use Rattle.model.specs.declared.instructions.ElementKind.TheVariants.{Int as IntElement, Long as LongElement}
use Rattle.model.specs.declared.instructions.ElementKind.TheVariants.{Ref as RefElement, Byte as ByteElement}
use Rattle.model.specs.declared.instructions.ElementKind.TheVariants.{Char as CharElement, Short as ShortElement}
use Rattle.model.specs.declared.instructions.Primitive.TheVariants.{Char as Chars, Byte as Bytes, Short as Shorts}
use Rattle.model.specs.declared.instructions.Primitive.TheVariants.{Int as AllInts, Long as AllLongs}
use Rattle.model.specs.declared.turns.Exception.TheVariants.{NullPointer, NegativeArraySize, ArrayStore}
use Rattle.model.specs.declared.turns.Exception.TheVariants.{ArrayIndexOutOfBounds}
use Rattle.model.specs.declared.turns.Fault.TheVariants.{StackEmpty, WrongKind, WrongClass}
use Rattle.model.specs.declared.values.Value.{Value}
use Rattle.model.specs.declared.values.Value.TheVariants.{Int, Long, Ref}
use Rattle.model.specs.Classes.Builtin.{builtin_classes}
use Rattle.model.specs.Classes.Subclasses.{is_within}
use Rattle.model.specs.Classes.Types.{is_subtype_within}
use Rattle.model.specs.Worlds.{Contents}
use Rattle.model.specs.Worlds.Contents.{Array}
use Rattle.model.specs.Completions.{Completion}
use Rattle.model.specs.Completions.Completion.{Creates, Raises, Faults}
use Rattle.model.specs.Words.{contents_at}
use Rattle.model.specs.Table.Arrays.{array_operated}
use Rattle.model.proofs.TableRows.HeapSites.{null, site, after_of, stack_after, pc_after, writes_of}

abbrev does : ArrayOperation (List ℕ) → List Value → Completion
does operation stack = array_operated (site 4 stack) operation

abbrev a : ℕ → Value
a birth = Ref (Some birth)

-- ---- newarray and anewarray: one operand goes, and the elements are 0 or null

made-bytes : does (New Bytes) (Int (pos 2) ∷ null ∷ [])
    ≡ Creates 9 1 (Array (codes "B") (Int (pos 0) ∷ Int (pos 0) ∷ []))
made-bytes = refl

made-chars : does (New Chars) (Int (pos 1) ∷ []) ≡ Creates 9 1 (Array (codes "C") (Int (pos 0) ∷ []))
made-chars = refl

made-shorts : does (New Shorts) (Int (pos 1) ∷ []) ≡ Creates 9 1 (Array (codes "S") (Int (pos 0) ∷ []))
made-shorts = refl

made-ints : does (New AllInts) (Int (pos 0) ∷ []) ≡ Creates 9 1 (Array (codes "I") [])
made-ints = refl

made-longs : does (New AllLongs) (Int (pos 1) ∷ []) ≡ Creates 9 1 (Array (codes "J") (Long (pos 0) ∷ []))
made-longs = refl

-- an array of a class, and one of arrays
made-objects : does (NewOf (codes "K")) (Int (pos 1) ∷ []) ≡ Creates 9 1 (Array (codes "LK;") (null ∷ []))
made-objects = refl

made-arrays : does (NewOf (codes "[I")) (Int (pos 1) ∷ []) ≡ Creates 9 1 (Array (codes "[I") (null ∷ []))
made-arrays = refl

made-empty : does (New Bytes) [] ≡ Faults StackEmpty
made-empty = refl

made-null : does (NewOf (codes "K")) (null ∷ []) ≡ Faults WrongKind
made-null = refl

made-negative : does (New Bytes) (Int (negsuc 0) ∷ []) ≡ Raises NegativeArraySize
made-negative = refl

made-negative_of : does (NewOf (codes "K")) (Int (negsuc 0) ∷ []) ≡ Raises NegativeArraySize
made-negative_of = refl

-- ---- arraylength

measured : stack_after (does Length (a 5 ∷ null ∷ [])) ≡ Int (pos 2) ∷ null ∷ []
measured = refl

measured-pc : pc_after (does Length (a 5 ∷ [])) ≡ 9
measured-pc = refl

measured-empty : does Length [] ≡ Faults StackEmpty
measured-empty = refl

measured-int : does Length (Int (pos 5) ∷ []) ≡ Faults WrongKind
measured-int = refl

measured-null : does Length (null ∷ []) ≡ Raises NullPointer
measured-null = refl

measured-object : does Length (a 3 ∷ []) ≡ Faults WrongClass
measured-object = refl

-- ---- loads: births 5 to 8 are arrays of bytes (1, 2), longs (6), Ks (birth 3, null) and arrays of ints

loaded-byte : stack_after (does (Load ByteElement) (Int (pos 1) ∷ a 5 ∷ null ∷ [])) ≡ Int (pos 2) ∷ null ∷ []
loaded-byte = refl

loaded-long : stack_after (does (Load LongElement) (Int (pos 0) ∷ a 6 ∷ [])) ≡ Long (pos 6) ∷ []
loaded-long = refl

-- a reference that is loaded is written
loaded-reference : stack_after (does (Load RefElement) (Int (pos 0) ∷ a 7 ∷ [])) ≡ a 3 ∷ []
loaded-reference = refl

loaded-writes : writes_of (does (Load RefElement) (Int (pos 0) ∷ a 7 ∷ [])) ≡ 3 ∷ []
loaded-writes = refl

loaded-null : writes_of (does (Load RefElement) (Int (pos 1) ∷ a 7 ∷ [])) ≡ []
loaded-null = refl

-- the index's F1 and F3, then the array's
loaded-empty : does (Load IntElement) [] ≡ Faults StackEmpty
loaded-empty = refl

loaded-no_index : does (Load IntElement) (null ∷ []) ≡ Faults WrongKind
loaded-no_index = refl

loaded-no_array : does (Load IntElement) (Int (pos 0) ∷ []) ≡ Faults StackEmpty
loaded-no_array = refl

loaded-int_as_array : does (Load IntElement) (Int (pos 0) ∷ Int (pos 5) ∷ []) ≡ Faults WrongKind
loaded-int_as_array = refl

-- null, F6 of another kind of array or no array, and an index outside, in this order
loaded-of_null : does (Load IntElement) (Int (negsuc 0) ∷ null ∷ []) ≡ Raises NullPointer
loaded-of_null = refl

loaded-of_bytes : does (Load IntElement) (Int (negsuc 0) ∷ a 5 ∷ []) ≡ Faults WrongClass
loaded-of_bytes = refl

loaded-char_of_bytes : does (Load CharElement) (Int (pos 0) ∷ a 5 ∷ []) ≡ Faults WrongClass
loaded-char_of_bytes = refl

loaded-short_of_bytes : does (Load ShortElement) (Int (pos 0) ∷ a 5 ∷ []) ≡ Faults WrongClass
loaded-short_of_bytes = refl

loaded-byte_of_longs : does (Load ByteElement) (Int (pos 0) ∷ a 6 ∷ []) ≡ Faults WrongClass
loaded-byte_of_longs = refl

loaded-reference_of_bytes : does (Load RefElement) (Int (pos 0) ∷ a 5 ∷ []) ≡ Faults WrongClass
loaded-reference_of_bytes = refl

loaded-of_object : does (Load RefElement) (Int (pos 0) ∷ a 3 ∷ []) ≡ Faults WrongClass
loaded-of_object = refl

loaded-past : does (Load ByteElement) (Int (pos 2) ∷ a 5 ∷ []) ≡ Raises ArrayIndexOutOfBounds
loaded-past = refl

loaded-before : does (Load ByteElement) (Int (negsuc 0) ∷ a 5 ∷ []) ≡ Raises ArrayIndexOutOfBounds
loaded-before = refl

-- ---- stores: the value lies above the index

abbrev array_after : ℕ → Completion → Contents
array_after birth c = contents_at (after_of c) birth

-- 200 in a byte is -56, and all operands are gone
stored-byte : array_after 5 (does (Store ByteElement) (Int (pos 200) ∷ Int (pos 1) ∷ a 5 ∷ null ∷ []))
    ≡ Array (codes "B") (Int (pos 1) ∷ Int (negsuc 55) ∷ [])
unfolding int_wrap
stored-byte = refl

stored-stack : stack_after (does (Store ByteElement) (Int (pos 200) ∷ Int (pos 1) ∷ a 5 ∷ null ∷ [])) ≡ null ∷ []
unfolding int_wrap
stored-stack = refl

stored-long : array_after 6 (does (Store LongElement) (Long (negsuc 0) ∷ Int (pos 0) ∷ a 6 ∷ []))
    ≡ Array (codes "J") (Long (negsuc 0) ∷ [])
stored-long = refl

-- a reference that is stored is written; null goes into every array of references
stored-reference : array_after 7 (does (Store RefElement) (a 3 ∷ Int (pos 1) ∷ a 7 ∷ []))
    ≡ Array (codes "LK;") (a 3 ∷ a 3 ∷ [])
unfolding builtin_classes is_within is_subtype_within
stored-reference = refl

stored-writes : writes_of (does (Store RefElement) (a 3 ∷ Int (pos 1) ∷ a 7 ∷ [])) ≡ 3 ∷ []
unfolding builtin_classes is_within is_subtype_within
stored-writes = refl

stored-null : array_after 7 (does (Store RefElement) (null ∷ Int (pos 0) ∷ a 7 ∷ []))
    ≡ Array (codes "LK;") (null ∷ null ∷ [])
stored-null = refl

-- the value's F3, the index's, the array's
stored-no_value : does (Store ByteElement) (null ∷ null ∷ Int (pos 0) ∷ []) ≡ Faults WrongKind
stored-no_value = refl

stored-no_index : does (Store ByteElement) (Int (pos 0) ∷ []) ≡ Faults StackEmpty
stored-no_index = refl

stored-null_as_index : does (Store ByteElement) (Int (pos 0) ∷ null ∷ []) ≡ Faults WrongKind
stored-null_as_index = refl

stored-no_array : does (Store ByteElement) (Int (pos 0) ∷ Int (pos 0) ∷ []) ≡ Faults StackEmpty
stored-no_array = refl

-- null, F6, an index outside, and then a value that is no element
stored-in_null : does (Store RefElement) (a 4 ∷ Int (pos 2) ∷ null ∷ []) ≡ Raises NullPointer
stored-in_null = refl

stored-in_bytes : does (Store RefElement) (a 4 ∷ Int (pos 2) ∷ a 5 ∷ []) ≡ Faults WrongClass
stored-in_bytes = refl

stored-past : does (Store RefElement) (a 4 ∷ Int (pos 2) ∷ a 7 ∷ []) ≡ Raises ArrayIndexOutOfBounds
stored-past = refl

stored-above : does (Store RefElement) (a 4 ∷ Int (pos 1) ∷ a 7 ∷ []) ≡ Raises ArrayStore
unfolding builtin_classes is_within is_subtype_within
stored-above = refl

stored-other_array : does (Store RefElement) (a 5 ∷ Int (pos 0) ∷ a 8 ∷ []) ≡ Raises ArrayStore
unfolding builtin_classes is_within is_subtype_within
stored-other_array = refl
