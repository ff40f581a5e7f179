-- Worked values of arithmetic, as a Java virtual machine gives them. A number below 0 is written by `negsuc`: -7 is
-- `negsuc 6`.
use Rattle.std.proofs.Common.{◌≡◌, pos, negsuc, Some, None, true, false, refl}
use Rattle.std.specs.Int.{w32, w64, int_wrap}
use Rattle.model.specs.declared.values.IntType.TheVariants.{Int}
use Rattle.model.specs.declared.instructions.Operator.TheVariants.{Add, Sub, Mul, Div, Rem, Shl, Shr, Ushr, And, Or}
use Rattle.model.specs.declared.instructions.Operator.TheVariants.{Xor}
use Rattle.model.specs.declared.instructions.Conversion.TheVariants.{IntToLong, LongToInt, IntToByte, IntToChar}
use Rattle.model.specs.declared.instructions.Conversion.TheVariants.{IntToShort}
use Rattle.model.specs.declared.instructions.Comparison.TheVariants.{Less, GreaterOrEqual, Greater}
use Rattle.model.specs.Arithmetic.{operator_result, negation, truncation, conversion_result, order_of, comparison_holds}

-- ---- divisions: the least number by -1, the remainder's sign, a divisor of 0

pub least_int_by_minus_one : operator_result w32 Div (negsuc 2147483647) (negsuc 0) ≡ Some (negsuc 2147483647)
unfolding int_wrap
least_int_by_minus_one = refl

pub least_int_remainder : operator_result w32 Rem (negsuc 2147483647) (negsuc 0) ≡ Some (pos 0)
least_int_remainder = refl

pub least_long_by_minus_one : operator_result w64 Div (negsuc 9223372036854775807) (negsuc 0)
    ≡ Some (negsuc 9223372036854775807)
unfolding int_wrap
least_long_by_minus_one = refl

pub least_long_remainder : operator_result w64 Rem (negsuc 9223372036854775807) (negsuc 0) ≡ Some (pos 0)
least_long_remainder = refl

pub remainder_of_minus_seven : operator_result w32 Rem (negsuc 6) (pos 3) ≡ Some (negsuc 0)
remainder_of_minus_seven = refl

pub remainder_by_minus_three : operator_result w32 Rem (pos 7) (negsuc 2) ≡ Some (pos 1)
remainder_by_minus_three = refl

pub quotient_of_minus_seven : operator_result w32 Div (negsuc 6) (pos 2) ≡ Some (negsuc 2)
unfolding int_wrap
quotient_of_minus_seven = refl

pub quotient_by_zero : operator_result w32 Div (negsuc 6) (pos 0) ≡ None
quotient_by_zero = refl

pub remainder_by_zero : operator_result w64 Rem (pos 0) (pos 0) ≡ None
remainder_by_zero = refl

-- ---- shifts: by the low 5 bits of an int's count, by the low 6 of a long's

pub shift_of_int_by_33 : operator_result w32 Shl (pos 1) (pos 33) ≡ Some (pos 2)
shift_of_int_by_33 = refl

pub shift_of_long_by_65 : operator_result w64 Shl (pos 1) (pos 65) ≡ Some (pos 2)
shift_of_long_by_65 = refl

pub shift_of_int_by_minus_one : operator_result w32 Shl (pos 1) (negsuc 0) ≡ Some (negsuc 2147483647)
shift_of_int_by_minus_one = refl

pub shift_with_sign : operator_result w32 Shr (negsuc 4) (pos 33) ≡ Some (negsuc 2)
shift_with_sign = refl

pub shift_of_int_with_zeros : operator_result w32 Ushr (negsuc 0) (pos 33) ≡ Some (pos 2147483647)
shift_of_int_with_zeros = refl

pub shift_of_long_with_zeros : operator_result w64 Ushr (negsuc 0) (pos 65) ≡ Some (pos 9223372036854775807)
shift_of_long_with_zeros = refl

pub shift_by_32_with_zeros : operator_result w32 Ushr (negsuc 0) (pos 32) ≡ Some (negsuc 0)
shift_by_32_with_zeros = refl

-- ---- sums, differences and products that wrap

pub sum_past_the_greatest_int : operator_result w32 Add (pos 2147483647) (pos 1) ≡ Some (negsuc 2147483647)
unfolding int_wrap
sum_past_the_greatest_int = refl

pub difference_past_the_least_int : operator_result w32 Sub (negsuc 2147483647) (pos 1) ≡ Some (pos 2147483647)
unfolding int_wrap
difference_past_the_least_int = refl

pub product_past_32_bits : operator_result w32 Mul (pos 65536) (pos 65537) ≡ Some (pos 65536)
unfolding int_wrap
product_past_32_bits = refl

pub sum_past_the_greatest_long : operator_result w64 Add (pos 9223372036854775807) (pos 1)
    ≡ Some (negsuc 9223372036854775807)
unfolding int_wrap
sum_past_the_greatest_long = refl

pub negation_of_the_least_int : negation w32 (negsuc 2147483647) ≡ negsuc 2147483647
unfolding int_wrap
negation_of_the_least_int = refl

pub negation_of_the_least_long : negation w64 (negsuc 9223372036854775807) ≡ negsuc 9223372036854775807
unfolding int_wrap
negation_of_the_least_long = refl

-- ---- bits

pub bits_of_both : operator_result w32 And (negsuc 1) (pos 7) ≡ Some (pos 6)
bits_of_both = refl

pub bits_of_either : operator_result w32 Or (negsuc 2147483647) (pos 5) ≡ Some (negsuc 2147483642)
bits_of_either = refl

pub bits_of_one : operator_result w64 Xor (negsuc 0) (pos 5) ≡ Some (negsuc 5)
bits_of_one = refl

-- ---- conversions

pub minus_five_as_long : conversion_result IntToLong (negsuc 4) ≡ negsuc 4
minus_five_as_long = refl

pub greatest_low_half : conversion_result LongToInt (pos 4294967295) ≡ negsuc 0
unfolding int_wrap
greatest_low_half = refl

pub least_long_as_int : conversion_result LongToInt (negsuc 9223372036854775807) ≡ pos 0
unfolding int_wrap
least_long_as_int = refl

pub byte_of_200 : conversion_result IntToByte (pos 200) ≡ negsuc 55
unfolding int_wrap
byte_of_200 = refl

pub char_of_minus_one : conversion_result IntToChar (negsuc 0) ≡ pos 65535
char_of_minus_one = refl

pub short_of_32768 : conversion_result IntToShort (pos 32768) ≡ negsuc 32767
unfolding int_wrap
short_of_32768 = refl

pub int_as_it_is : truncation Int (negsuc 2147483647) ≡ negsuc 2147483647
int_as_it_is = refl

-- ---- comparisons

pub least_long_below_greatest : order_of (negsuc 9223372036854775807) (pos 9223372036854775807) ≡ negsuc 0
least_long_below_greatest = refl

pub five_at_five : order_of (pos 5) (pos 5) ≡ pos 0
five_at_five = refl

pub past_32_bits_above_one : order_of (pos 4294967296) (pos 1) ≡ pos 1
past_32_bits_above_one = refl

pub minus_one_less_than_zero : comparison_holds Less (negsuc 0) (pos 0) ≡ true
minus_one_less_than_zero = refl

pub minus_one_not_greater : comparison_holds Greater (negsuc 0) (pos 0) ≡ false
minus_one_not_greater = refl

pub four_at_least_four : comparison_holds GreaterOrEqual (pos 4) (pos 4) ≡ true
four_at_least_four = refl
