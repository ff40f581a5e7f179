-- What is left of a whole number at a width, as the machine's bits give it.
use Rattle.std.proofs.Common.{◌≡◌, ℕ, zero, suc, ◌-◌, ◌^◌, ◌<◌, ◌≤◌, ℤ, pos, negsuc, neg_ℤ, refl, ap, sym, ◌∙◌, arith}
use Rattle.std.proofs.Math.Nat.{mod-eq_of_lt, div-le_self}
use Rattle.std.proofs.lemmas.Nat.{and_mask}
use Rattle.std.proofs.lemmas.Int.{wraps as std_wraps}
use Rattle.std.specs.Int.{Width, w8, w16, w32, w64, w128, int_wrap, cast_signed, cast_unsigned, int_wrapping_div}
use Rattle.std.specs.Int.RustNames.{FitsSigned, bit_and, int_div, unsigned_abs}
use mir.Val.{bits, hbits}

-- the bits of a number of less than 2 to the width are what is left of it
pub int_wrap-small : (w : Width) (z : ℤ) → unsigned_abs z < 2 ^ bits w → cast_signed w (cast_unsigned w z) ≡
    int_wrap w z
unfolding int_wrap
int_wrap-small w (pos n) small = sym (ap (cast_signed w) (mod-eq_of_lt small))
int_wrap-small w (negsuc n) small =
    let below : n < 2 ^ bits w = omega arith in
    sym (ap (cast_signed w) (rw mod-eq_of_lt (omega arith)))

abs_below : (w : Width) (a : ℤ) → FitsSigned w a → unsigned_abs a ≤ 2 ^ hbits w
abs_below w (pos n) fits = omega arith
abs_below w (negsuc n) fits = omega arith

half_below : (w : Width) → 2 ^ hbits w < 2 ^ bits w
half_below w8 = omega arith
half_below w16 = omega arith
half_below w32 = omega arith
half_below w64 = omega arith
half_below w128 = omega arith

abs_neg : (n : ℕ) → unsigned_abs (neg_ℤ (pos n)) ≡ n
abs_neg zero = refl
abs_neg (suc n) = refl

-- a quotient is no larger than the dividend
abs_quotient : (a b : ℤ) → unsigned_abs (int_div a b) ≤ unsigned_abs a
abs_quotient (pos m) (pos n) = div-le_self m n
abs_quotient (pos m) (negsuc n) = rw abs_neg (div-le_self m (suc n))
abs_quotient (negsuc m) (pos n) = rw abs_neg (div-le_self (suc m) n)
abs_quotient (negsuc m) (negsuc n) = div-le_self (suc m) (suc n)

-- what `wrapping_div` gives
pub wrapping_div_is : (w : Width) (a b : ℤ) → FitsSigned w a → int_wrapping_div w a b ≡ int_wrap w (int_div a b)
wrapping_div_is w a b fits =
    let small = abs_below w a fits in
    let half = half_below w in
    let quotient = abs_quotient a b in
    int_wrap-small w (int_div a b) (omega arith)

-- what is left of a long at 32 bits
pub int_wrap-long : (a : ℤ) → FitsSigned w64 a → cast_signed w32 (bit_and (cast_unsigned w64 a) 4294967295) ≡
    int_wrap w32 a
unfolding int_wrap
int_wrap-long (pos n) fits = ap (cast_signed w32) (and_mask n 32)
int_wrap-long (negsuc n) fits = ap (cast_signed w32) (and_mask (2 ^ 64 - suc n) 32 ∙ omega arith)

-- what is left of an int at 8 and at 16 bits
pub int_wrap-byte : (a : ℤ) → FitsSigned w32 a → cast_signed w8 (bit_and (cast_unsigned w32 a) 255) ≡ int_wrap w8 a
unfolding int_wrap
int_wrap-byte (pos n) fits = ap (cast_signed w8) (and_mask n 8)
int_wrap-byte (negsuc n) fits = ap (cast_signed w8) (and_mask (2 ^ 32 - suc n) 8 ∙ omega arith)

pub int_wrap-short : (a : ℤ) → FitsSigned w32 a → cast_signed w16 (bit_and (cast_unsigned w32 a) 65535) ≡ int_wrap w16 a
unfolding int_wrap
int_wrap-short (pos n) fits = ap (cast_signed w16) (and_mask n 16)
int_wrap-short (negsuc n) fits = ap (cast_signed w16) (and_mask (2 ^ 32 - suc n) 16 ∙ omega arith)

pub ruleset wraps = (std_wraps, wrapping_div_is, int_wrap-long, int_wrap-byte, int_wrap-short)
