-- Reading the instructions of a method, one after another.
use Rattle.std.specs.Prelude.{ℕ, zero, suc, ◌+◌, ◌-◌, Bool, false, ◌&&◌, ◌||◌, ◌==◌, nat_le, List, [], ◌∷◌, length}
use Rattle.std.specs.Prelude.{Result, Ok, Err, if◌then◌else◌}
use Rattle.std.specs.List.{list_all}
use Rattle.model.specs.Bytecode.{targets}
use Rattle.model.specs.declared.bytecode.Located.{Located}
use Rattle.model.specs.declared.class_files.FormatFault.{FormatFault}
use Rattle.model.specs.declared.class_files.FormatFault.TheVariants.{Attribute}
use Rattle.opcodes.specs.declared.error.OpError.{OpError}
use Rattle.opcodes.specs.declared.error.OpError.TheVariants as error
use Rattle.opcodes.specs.Reading.{instruction_at}
use Rattle.opcodes.specs.Reading.Steps.{◌>>=◌}

-- the instructions from this pc on, of which there are so many at most
unfoldable pub items_from : ℕ → ℕ → List ℕ → Result (List Located) OpError
items_from zero pc [] = Ok []
items_from zero pc (b ∷ bytes) = Err error.Length
items_from (suc left) pc [] = Ok []
items_from (suc left) pc (b ∷ bytes) = do
  first ← instruction_at pc (b ∷ bytes)
  others ← items_from left (pc + (length (b ∷ bytes) - length first.1)) first.1
  Ok (record { pc = pc; next = pc + (length (b ∷ bytes) - length first.1); instruction = first.0 } ∷ others)

-- one of the instructions stands at this pc
abbrev pub is_pc : List Located → ℕ → Bool
is_pc [] pc = false
is_pc (x ∷ xs) pc = x.pc == pc || is_pc xs pc

-- each branch leads to one of the instructions
abbrev pub lands_among : List Located → Located → Bool
lands_among items x = list_all (is_pc items) (targets x.instruction)

unfoldable pub decoded : List ℕ → Result (List Located) OpError
decoded bytes =
    if nat_le 1 (length bytes) && nat_le (length bytes) 65535
    then (items_from (length bytes) 0 bytes >>= λ items. if list_all (lands_among items) items then Ok items
    else Err error.Branch)
    else Err error.Length

abbrev pub items_or_none : Result (List Located) OpError → List Located
items_or_none (Ok items) = items
items_or_none (Err e) = []

-- the instructions of code, none of bytes that are no code
unfoldable pub items_in : List ℕ → List Located
items_in bytes = items_or_none (decoded bytes)

-- faulty code as a faulty attribute
abbrev pub as_format : {A : Type 0} → Result A OpError → Result A FormatFault
as_format (Ok x) = Ok x
as_format (Err e) = Err Attribute
