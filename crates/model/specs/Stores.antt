use Rattle.std.specs.Prelude.{ℕ, ◌==◌, List, [], ◌∷◌, if◌then◌else◌}
use Rattle.model.specs.declared.values.IntType.{IntType}
use Rattle.model.specs.declared.values.IntType.TheVariants.{Byte, Char, Short, Int as AllBits}
use Rattle.model.specs.declared.values.Kind.{Kind}
use Rattle.model.specs.declared.values.Kind.TheVariants.{Int as IntKind, Long as LongKind, Ref as RefKind}
use Rattle.model.specs.declared.values.Value.{Value}
use Rattle.model.specs.declared.values.Value.TheVariants.{Int, Long, Ref}
use Rattle.model.specs.Values.{default_of}
use Rattle.model.specs.Arithmetic.{truncation}

-- What a static field, a field of an object or an element of an array keeps (JVMS 2.3, 2.4, 4.3.2).

pub data Storage : Type 0 where
  Ints : (type : IntType) → Storage
  Longs : Storage
  References : Storage

-- by the first letter of a descriptor: B, C, S, I and J; any other is that of a class or an array
abbrev pub storage_by : ℕ → Storage
storage_by letter =
    if letter == 66 then Ints Byte else if letter == 67 then Ints Char else if letter == 83 then Ints Short else
    if letter == 73 then Ints AllBits else if letter == 74 then Longs else References

abbrev pub storage_of : List ℕ → Storage
storage_of [] = References
storage_of (letter ∷ descriptor) = storage_by letter

abbrev pub storage_kind : Storage → Kind
storage_kind (Ints type) = IntKind
storage_kind Longs = LongKind
storage_kind References = RefKind

-- the kind of a value of this descriptor
abbrev pub descriptor_kind : List ℕ → Kind
descriptor_kind descriptor = storage_kind (storage_of descriptor)

-- what is there before it is written
abbrev pub default_in : Storage → Value
default_in storage = default_of (storage_kind storage)

-- a store keeps of an int what the type has bits for
abbrev pub kept : Storage → Value → Value
kept (Ints type) (Int z) = Int (truncation type z)
kept (Ints type) (Long z) = Long z
kept (Ints type) (Ref r) = Ref r
kept Longs v = v
kept References v = v
