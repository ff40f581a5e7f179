use Rattle.std.specs.Prelude.{ℕ, List}
use Rattle.model.specs.declared.values.IntType.TheVariants.{Byte, Char, Short, Int as AllBits}
use Rattle.model.specs.Stores.{Storage, storage_of}
use Rattle.model.specs.Stores.Storage.{Ints, Longs, References}
use Rattle.linking.specs.declared.storages.Storage.{Storage as Flat}
use Rattle.linking.specs.declared.storages.Storage.TheVariants.{Byte as FlatByte, Char as FlatChar, Short as FlatShort}
use Rattle.linking.specs.declared.storages.Storage.TheVariants.{Int as FlatInt, Long as FlatLong, Ref as FlatRef}

-- what a field keeps, as code has it and as the definitions say it
abbrev pub flat : Storage → Flat
flat (Ints Byte) = FlatByte
flat (Ints Char) = FlatChar
flat (Ints Short) = FlatShort
flat (Ints AllBits) = FlatInt
flat Longs = FlatLong
flat References = FlatRef

abbrev pub shown_storage : Flat → Storage
shown_storage FlatByte = Ints Byte
shown_storage FlatChar = Ints Char
shown_storage FlatShort = Ints Short
shown_storage FlatInt = Ints AllBits
shown_storage FlatLong = Longs
shown_storage FlatRef = References

abbrev pub descriptor_storage : List ℕ → Flat
descriptor_storage descriptor = flat (storage_of descriptor)
