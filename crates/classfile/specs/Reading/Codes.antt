-- Reading a Code attribute.
use Rattle.std.specs.Prelude.{ℕ, Bool, ◌||◌, ◌==◌, List, [], ◌∷◌, Result, Ok, Err, if◌then◌else◌}
use Rattle.std.specs.List.{list_all}
use Rattle.std.specs.Int.{w16}
use Rattle.model.specs.ClassFiles.Codes.{CodeRow, CodePart, has_tag, is_sound}
use Rattle.model.specs.declared.bytecode.Located.{Located}
use Rattle.model.specs.declared.class_files.Entry.{Entry}
use Rattle.model.specs.declared.class_files.FormatFault.{FormatFault}
use Rattle.model.specs.declared.class_files.FormatFault.TheVariants.{Magic, Version, Short, Trailing, Tag, Index, Name}
use Rattle.model.specs.declared.class_files.FormatFault.TheVariants.{Attribute, Flags}
use Rattle.pool.specs.Reading.Steps.{◌>>=◌, number_at}
use Rattle.classfile.specs.Reading.Attributes.{Reads, sized_from, skipped_from}
use Rattle.classfile.specs.Reading.Instructions.{decoded, as_format}
use Rattle.classfile.specs.Reading.Lists.{list_from}

-- each instruction names what it should
abbrev pub are_sound : List Entry → List Located → Bool
are_sound pool items = list_all (λ x. is_sound pool x.instruction) items

-- instructions that name what they should, else C6
unfoldable pub sound_from : List Entry → List ℕ → Result (List Located) FormatFault
sound_from pool code = as_format (decoded code) >>= λ items. if are_sound pool items then Ok items else Err Index

unfoldable pub row_from : List Entry → List ℕ → Reads CodeRow
row_from pool bytes = do
  start ← number_at w16 bytes
  end ← number_at w16 start.1
  handler ← number_at w16 end.1
  class ← number_at w16 handler.1
  if class.0 == 0 || has_tag pool 7 class.0
      then Ok (record { start = start.0; end = end.0; handler = handler.0; class = class.0 }, class.1) else Err Index

-- the limits, and the bytes of the code
unfoldable pub limits_from : List ℕ → Reads ((ℕ × ℕ) × List ℕ)
limits_from bytes = do
  stack ← number_at w16 bytes
  locals ← number_at w16 stack.1
  code ← sized_from locals.1
  Ok (((stack.0, locals.0), code.0), code.1)

-- nothing is left of an attribute, else C8
abbrev pub filled : {A : Type 0} → A → List ℕ → Result A FormatFault
filled x [] = Ok x
filled x (b ∷ bytes) = Err Attribute

-- the rows, and attributes that don't count, up to the end
unfoldable pub tail_from : List Entry → List ℕ → Result (List CodeRow) FormatFault
tail_from pool bytes = do
  rows ← list_from (row_from pool) bytes
  attributes ← skipped_from pool rows.1
  filled rows.0 attributes.1

unfoldable pub body_from : List Entry → ℕ → List ℕ → Result CodePart FormatFault
body_from pool name info = do
  limits ← limits_from info
  items ← sound_from pool limits.0.1
  rows ← tail_from pool limits.1
  Ok (record { name = name; max_stack = limits.0.0.0; max_locals = limits.0.0.1; instructions = items; rows = rows })

-- what passes an attribute's end is C8
abbrev pub inside : FormatFault → FormatFault
inside Magic = Magic
inside Version = Version
inside Short = Attribute
inside Trailing = Trailing
inside Tag = Tag
inside Index = Index
inside Name = Name
inside Attribute = Attribute
inside Flags = Flags

abbrev pub within : {A : Type 0} → Result A FormatFault → Result A FormatFault
within (Ok x) = Ok x
within (Err fault) = Err (inside fault)

-- a Code attribute under this name
unfoldable pub code_from : List Entry → ℕ → List ℕ → Result CodePart FormatFault
code_from pool name info = within (body_from pool name info)
