-- Reading the entries of a pool.
use Rattle.std.specs.Prelude.{ℕ, List, Result, Ok, Err, nat_lt, ◌==◌, if◌then◌else◌}
use Rattle.std.specs.List.{list_all}
use Rattle.std.specs.Int.{w16, w32, w64}
use Rattle.model.specs.ClassFiles.Entries.{is_text_byte}
use Rattle.model.specs.declared.class_files.Entry.{Entry}
use Rattle.model.specs.declared.class_files.Entry.TheVariants.{Utf8, Integer, Long, Class, Fieldref, Methodref}
use Rattle.model.specs.declared.class_files.Entry.TheVariants.{InterfaceMethodref, NameAndType}
use Rattle.model.specs.declared.class_files.FormatFault.{FormatFault}
use Rattle.model.specs.declared.class_files.FormatFault.TheVariants.{Index, Name, Tag}
use Rattle.pool.specs.Reading.Steps.{◌>>=◌, byte_at, number_at, signed_at, taken}

unfoldable pub utf8_from : List ℕ → Result (Entry × List ℕ) FormatFault
utf8_from bytes = do
  n ← number_at w16 bytes
  text ← taken n.0 n.1
  if list_all is_text_byte text.0 then Ok (Utf8 text.0, text.1) else Err Name

abbrev pub integer_from : List ℕ → Result (Entry × List ℕ) FormatFault
integer_from bytes = signed_at w32 bytes >>= λ z. Ok (Integer z.0, z.1)

abbrev pub class_from : List ℕ → Result (Entry × List ℕ) FormatFault
class_from bytes = number_at w16 bytes >>= λ n. Ok (Class n.0, n.1)

-- a long wants two of the numbers that are left
unfoldable pub long_from : ℕ → List ℕ → Result (Entry × List ℕ) FormatFault
long_from left bytes = if nat_lt left 2 then Err Index else (signed_at w64 bytes >>= λ z. Ok (Long z.0, z.1))

unfoldable pub pair_from : List ℕ → Result ((ℕ × ℕ) × List ℕ) FormatFault
pair_from bytes = do
  first ← number_at w16 bytes
  second ← number_at w16 first.1
  Ok ((first.0, second.0), second.1)

-- two numbers as an entry
abbrev pub paired : (ℕ → ℕ → Entry) → List ℕ → Result (Entry × List ℕ) FormatFault
paired make bytes = pair_from bytes >>= λ p. Ok (make p.0.0 p.0.1, p.1)

-- an entry after its tag
abbrev pub tagged : ℕ → ℕ → List ℕ → Result (Entry × List ℕ) FormatFault
tagged tag left bytes =
    if tag == 1 then utf8_from bytes
    else if tag == 3 then integer_from bytes
    else if tag == 5 then long_from left bytes
    else if tag == 7 then class_from bytes
    else if tag == 9 then paired Fieldref bytes
    else if tag == 10 then paired Methodref bytes
    else if tag == 11 then paired InterfaceMethodref bytes
    else if tag == 12 then paired NameAndType bytes
    else Err Tag

-- an entry, where so many numbers are left
unfoldable pub entry_from : ℕ → List ℕ → Result (Entry × List ℕ) FormatFault
entry_from left bytes = byte_at bytes >>= λ tag. tagged tag.0 left tag.1
