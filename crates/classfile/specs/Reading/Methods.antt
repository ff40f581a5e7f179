-- Reading methods.
use Rattle.std.specs.Prelude.{ℕ, Bool, true, false, List, codes, is_some, Option, Some, None, Ok, Err, if◌then◌else◌}
use Rattle.std.specs.Int.{w16}
use Rattle.std.specs.Str.{bytes_eq}
use Rattle.model.specs.Texts.Names.{is_method_name}
use Rattle.model.specs.Texts.Descriptors.{arguments_of}
use Rattle.model.specs.Texts.Flags.{has}
use Rattle.model.specs.ClassFiles.Codes.{CodePart}
use Rattle.model.specs.ClassFiles.Methods.{MethodPart, are_method_flags, wants_code, units_fit}
use Rattle.model.specs.declared.class_files.Entry.{Entry}
use Rattle.model.specs.declared.class_files.FormatFault.TheVariants.{Attribute, Flags}
use Rattle.pool.specs.Reading.Steps.{◌>>=◌, number_at}
use Rattle.classfile.specs.Reading.Attributes.{Reads, sized_from, tested_from, attributes_from}
use Rattle.classfile.specs.Reading.Codes.{code_from}

unfoldable pub method_flags_from : ℕ → List ℕ → Reads ℕ
method_flags_from class bytes = number_at w16 bytes >>= λ flags. if are_method_flags class flags.0 then Ok flags
    else Err Flags

-- a method's descriptor whose arguments are not too many
abbrev pub method_type_test : Bool → List ℕ → Bool
method_type_test static text = units_fit static (arguments_of text)

abbrev pub is_code_name : List ℕ → Bool
is_code_name text = bytes_eq text (codes "Code")

-- a Code attribute after its name, where one is wanted; a second one is C8
unfoldable pub found_code_from : List Entry → Bool → Option CodePart → ℕ → List ℕ → Reads (Option CodePart)
found_code_from pool wanted (Some c) name bytes = Err Attribute
found_code_from pool false None name bytes = Err Attribute
found_code_from pool true None name bytes = do
  info ← sized_from bytes
  code ← code_from pool name info.0
  Ok (Some code, info.1)

-- the code of a method, which has it where it is wanted
unfoldable pub codes_from : List Entry → Bool → List ℕ → Reads (Option CodePart)
codes_from pool wanted bytes = do
  count ← number_at w16 bytes
  found ← attributes_from pool is_code_name (found_code_from pool wanted) count.0 None count.1
  if wanted then (if is_some found.0 then Ok found else Err Attribute) else Ok found

-- a method in a class of these flags
unfoldable pub method_from : List Entry → ℕ → List ℕ → Reads MethodPart
method_from pool class bytes = do
  flags ← method_flags_from class bytes
  name ← tested_from pool is_method_name flags.1
  type ← tested_from pool (method_type_test (has flags.0 0x0008)) name.1
  code ← codes_from pool (wants_code flags.0) type.1
  Ok (record { flags = record { 0 = flags.0 }; name = name.0.0; descriptor = type.0.0; code = code.0 }, code.1)
