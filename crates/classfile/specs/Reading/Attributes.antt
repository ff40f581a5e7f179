-- Reading attributes, of which some are wanted.
use Rattle.std.specs.Prelude.{ℕ, zero, suc, Bool, false, List, Option, Some, None, Result, Ok, Err, if◌then◌else◌}
use Rattle.std.specs.Int.{w16, w32}
use Rattle.model.specs.ClassFiles.References.{text_at}
use Rattle.model.specs.declared.class_files.Entry.{Entry}
use Rattle.model.specs.declared.class_files.FormatFault.{FormatFault}
use Rattle.model.specs.declared.class_files.FormatFault.TheVariants.{Index, Name}
use Rattle.pool.specs.Reading.Steps.{◌>>=◌, number_at, taken}

-- a value that was read, and the bytes after it
abbrev pub Reads : Type 0 → Type 0
Reads A = Result (A × List ℕ) FormatFault

-- bytes after their number
unfoldable pub sized_from : List ℕ → Reads (List ℕ)
sized_from bytes = number_at w32 bytes >>= λ len. taken len.0 len.1

-- a text, or C6
abbrev pub the_text : Option (List ℕ) → List ℕ → Reads (List ℕ)
the_text None rest = Err Index
the_text (Some text) rest = Ok (text, rest)

-- the number of a text, and the text
unfoldable pub text_from : List Entry → List ℕ → Reads (ℕ × List ℕ)
text_from pool bytes = do
  number ← number_at w16 bytes
  text ← the_text (text_at pool number.0) number.1
  Ok ((number.0, text.0), text.1)

-- the number of a text that passes a test, and the text: C6 where there is none, C7 where it does not pass
unfoldable pub tested_from : List Entry → (List ℕ → Bool) → List ℕ → Reads (ℕ × List ℕ)
tested_from pool test bytes = text_from pool bytes >>= λ t. if test t.0.1 then Ok t else Err Name

-- an attribute that is not wanted is skipped
abbrev pub skipped : {S : Type 0} → S → List ℕ → Reads S
skipped s bytes = sized_from bytes >>= λ info. Ok (s, info.1)

-- what is done with the attributes under a wanted name, after the name
unfoldable pub attribute_from : {S : Type 0} → List Entry → (List ℕ → Bool) → (S → ℕ → List ℕ → Reads S) → S → List ℕ
    → Reads S
attribute_from pool wanted step s bytes = text_from pool bytes >>= λ name. if wanted name.0.1
    then step s name.0.0 name.1 else skipped s name.1

unfoldable pub attributes_from : {S : Type 0} → List Entry → (List ℕ → Bool) → (S → ℕ → List ℕ → Reads S) → ℕ → S
    → List ℕ → Reads S
attributes_from pool wanted step zero s bytes = Ok (s, bytes)
attributes_from pool wanted step (suc n) s bytes = attribute_from pool wanted step s bytes
    >>= λ first. attributes_from pool wanted step n first.0 first.1

-- no attribute is wanted
abbrev pub none_wanted : List ℕ → Bool
none_wanted text = false

abbrev pub no_step : ℕ → ℕ → List ℕ → Reads ℕ
no_step s name bytes = Err Name

-- attributes that don't count, after their count
unfoldable pub skipped_from : List Entry → List ℕ → Reads ℕ
skipped_from pool bytes = number_at w16 bytes >>= λ count. attributes_from pool none_wanted no_step count.0 0 count.1
