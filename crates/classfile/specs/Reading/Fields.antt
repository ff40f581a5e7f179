-- Reading fields.
use Rattle.std.specs.Prelude.{ℕ, Bool, ◌==◌, List, length, Option, Some, None, Result, Ok, Err, if◌then◌else◌}
use Rattle.std.specs.Int.{w16, from_be_bytes}
use Rattle.model.specs.Texts.Names.{is_field_name}
use Rattle.model.specs.Texts.Descriptors.{is_field_descriptor}
use Rattle.model.specs.Texts.Flags.{has}
use Rattle.model.specs.ClassFiles.Pools.{entry_at}
use Rattle.model.specs.ClassFiles.Fields.{are_field_flags, is_value_of, is_constant_value}
use Rattle.model.specs.declared.class_files.Entry.{Entry}
use Rattle.model.specs.declared.class_files.ConstantValue.{ConstantValue}
use Rattle.model.specs.declared.class_files.FieldEntry.{FieldEntry}
use Rattle.model.specs.declared.class_files.FormatFault.{FormatFault}
use Rattle.model.specs.declared.class_files.FormatFault.TheVariants.{Attribute, Index, Flags}
use Rattle.pool.specs.Reading.Steps.{◌>>=◌, number_at}
use Rattle.classfile.specs.Reading.Attributes.{Reads, sized_from, tested_from, attributes_from}

-- the value that an attribute's bytes are the number of: C8 where they are not two, C6 where it is of another kind
unfoldable pub value_of : List Entry → List ℕ → List ℕ → Result ℕ FormatFault
value_of pool type info =
    if length info == 2
    then (if is_value_of type (entry_at pool (from_be_bytes w16 info)) then Ok (from_be_bytes w16 info) else Err Index)
    else Err Attribute

-- a ConstantValue after its name; a second one is C8
unfoldable pub constant_from : List Entry → List ℕ → Option ConstantValue → ℕ → List ℕ → Reads (Option ConstantValue)
constant_from pool type (Some c) name bytes = Err Attribute
constant_from pool type None name bytes = do
  info ← sized_from bytes
  value ← value_of pool type info.0
  Ok (Some (record { name = name; value = value }), info.1)

unfoldable pub constants_from : List Entry → Bool → List ℕ → List ℕ → Reads (Option ConstantValue)
constants_from pool static type bytes = number_at w16 bytes >>= λ count. attributes_from pool (is_constant_value static)
    (constant_from pool type) count.0 None count.1

unfoldable pub field_flags_from : ℕ → List ℕ → Reads ℕ
field_flags_from class bytes = number_at w16 bytes >>= λ flags. if are_field_flags class flags.0 then Ok flags
    else Err Flags

-- a field in a class of these flags
unfoldable pub field_from : List Entry → ℕ → List ℕ → Reads FieldEntry
field_from pool class bytes = do
  flags ← field_flags_from class bytes
  name ← tested_from pool is_field_name flags.1
  type ← tested_from pool is_field_descriptor name.1
  constant ← constants_from pool (has flags.0 0x0008) type.0.1 type.1
  Ok (
    record { flags = record { 0 = flags.0 }; name = name.0.0; descriptor = type.0.0; constant = constant.0 },
    constant.1,
  )
