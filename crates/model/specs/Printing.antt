use Rattle.std.specs.Prelude.{ℕ, ◌%◌, ◌^◌, ℤ, List, [], ◌∷◌, ◌++◌, Option, Some, None, Result, Ok, Err}
use Rattle.std.specs.Fmt.{signed_decimal}
use Rattle.std.specs.Int.{w32, cast_unsigned}
use Rattle.model.specs.declared.turns.Fault.{Fault}

-- a number in decimal and a newline
abbrev pub decimal_line : ℤ → List ℕ
decimal_line z = signed_decimal z ++ 10 ∷ []

-- the low 8 bits of a number
abbrev pub low_byte : ℤ → List ℕ
low_byte z = cast_unsigned w32 z % 2 ^ 8 ∷ []

-- what is printed of an operand, where it is right
abbrev pub line_of : (ℤ → List ℕ) → Result ℤ Fault → Option (List ℕ)
line_of bytes (Ok z) = Some (bytes z)
line_of bytes (Err fault) = None
