use Rattle.std.specs.Prelude.{ℤ, ℕ, pos, negsuc, neg_ℤ, ◌+ℤ◌, ◌-ℤ◌, ◌*ℤ◌, ◌/◌, ◌%◌, ◌^◌, Option, Some, None, Bool, not}
use Rattle.std.specs.Prelude.{int_div, int_rem, int_lt, int_le, if◌then◌else◌}
use Rattle.std.specs.Int.{Width, w8, w16, w32, w64, int_wrap, int_shl, int_shr, int_bit_and, int_bit_or, int_bit_xor}
use Rattle.std.specs.Int.{cast_unsigned, cast_signed}
use Rattle.std.specs.Ordering.{int_eq, int_cmp, match_ordering}
use Rattle.model.specs.declared.values.IntType.{IntType}
use Rattle.model.specs.declared.values.IntType.TheVariants.{Byte, Char, Short, Int as AllBits}
use Rattle.model.specs.declared.instructions.NumberKind.{NumberKind}
use Rattle.model.specs.declared.instructions.NumberKind.TheVariants.{Int, Long}
use Rattle.model.specs.declared.instructions.Operator.{Operator}
use Rattle.model.specs.declared.instructions.Operator.TheVariants.{Add, Sub, Mul, Div, Rem, Shl, Shr, Ushr, And, Or}
use Rattle.model.specs.declared.instructions.Operator.TheVariants.{Xor}
use Rattle.model.specs.declared.instructions.Conversion.{Conversion}
use Rattle.model.specs.declared.instructions.Conversion.TheVariants.{IntToLong, LongToInt, IntToByte, IntToChar}
use Rattle.model.specs.declared.instructions.Conversion.TheVariants.{IntToShort}
use Rattle.model.specs.declared.instructions.Comparison.{Comparison}
use Rattle.model.specs.declared.instructions.Comparison.TheVariants.{Equal, NotEqual, Less, GreaterOrEqual, Greater}
use Rattle.model.specs.declared.instructions.Comparison.TheVariants.{LessOrEqual}
use mir.Val.{bits}

-- the arithmetic of ints and longs (JVMS 2.11.3, 2.11.4, 6.5): whole numbers, of which `int_wrap` keeps the low bits

-- an int has 32 bits, a long 64
abbrev pub width_of : NumberKind → Width
width_of Int = w32
width_of Long = w64

-- the low 5 bits of a shift's count where 32 bits are shifted, the low 6 where 64 are
abbrev pub shift_distance : Width → ℤ → ℕ
shift_distance w count = cast_unsigned w count % bits w

-- a division's result, none where the divisor is 0
abbrev pub if_divisible : ℤ → ℤ → Option ℤ
if_divisible divisor z = if int_eq divisor (pos 0) then None else Some z

-- what an operator makes of two numbers; a shift's right one is its count
abbrev pub operator_result : Width → Operator → ℤ → ℤ → Option ℤ
operator_result w Add a b = Some (int_wrap w (a +ℤ b))
operator_result w Sub a b = Some (int_wrap w (a -ℤ b))
operator_result w Mul a b = Some (int_wrap w (a *ℤ b))
operator_result w Div a b = if_divisible b (int_wrap w (int_div a b))
operator_result w Rem a b = if_divisible b (int_rem a b)
operator_result w Shl a b = Some (int_shl w a (shift_distance w b))
operator_result w Shr a b = Some (int_shr a (shift_distance w b))
operator_result w Ushr a b = Some (cast_signed w (cast_unsigned w a / 2 ^ shift_distance w b))
operator_result w And a b = Some (int_bit_and w a b)
operator_result w Or a b = Some (int_bit_or w a b)
operator_result w Xor a b = Some (int_bit_xor w a b)

-- the number with the other sign
abbrev pub negation : Width → ℤ → ℤ
negation w a = int_wrap w (neg_ℤ a)

-- what a field, a static or an element of a type keeps of an int: its low 8 or 16 bits with their sign, for a char with
-- zeros
abbrev pub truncation : IntType → ℤ → ℤ
truncation Byte a = int_wrap w8 a
truncation Char a = pos (cast_unsigned w32 a % 2 ^ 16)
truncation Short a = int_wrap w16 a
truncation AllBits a = a

-- what a conversion makes of a number of the kind that it takes
abbrev pub conversion_result : Conversion → ℤ → ℤ
conversion_result IntToLong a = a
conversion_result LongToInt a = int_wrap w32 a
conversion_result IntToByte a = truncation Byte a
conversion_result IntToChar a = truncation Char a
conversion_result IntToShort a = truncation Short a

-- -1, 0 or 1, as the first number is below, at or above the second
abbrev pub order_of : ℤ → ℤ → ℤ
order_of a b = match_ordering (int_cmp a b) (negsuc 0) (pos 0) (pos 1)

-- whether the first number compares to the second as a branch asks
abbrev pub comparison_holds : Comparison → ℤ → ℤ → Bool
comparison_holds Equal a b = int_eq a b
comparison_holds NotEqual a b = not (int_eq a b)
comparison_holds Less a b = int_lt a b
comparison_holds GreaterOrEqual a b = int_le b a
comparison_holds Greater a b = int_lt b a
comparison_holds LessOrEqual a b = int_le a b
