-- Numbers and labels are plain words.
use Rattle.std.proofs.Common.{◌≡◌, ℕ, zero, suc, ◌+◌, ◌/◌, ◌%◌, ◌<◌, ◌==◌, ℤ, pos, negsuc, true, false, List, [], ◌∷◌}
use Rattle.std.proofs.Common.{refl, arith}
use Rattle.std.specs.Prelude.{nat_le, decimal}
use Rattle.std.specs.Fmt.{signed_decimal, digits, digits_onto, digit_glyph}
use Rattle.std.specs.List.{list_all}
use Rattle.std.proofs.lemmas.Bool.{and_parts, and_from, cond_both, lt-ltb, le-leb}
use Rattle.std.proofs.Math.Nat.{mod-lt}
use Rattle.model.specs.Texts.Disassembling.{label}
use Rattle.model.specs.Texts.Numbers.{is_digit}
use Rattle.model.proofs.PlainNames.{is_ink, IsPlain, inks_of, plain_word, weaker, start_is_ink, digit_starts}

glyph_digit : (n : ℕ) → is_digit (digit_glyph false (n % 10)) ≡ true
glyph_digit n =
    let small : n % 10 < 10 = mod-lt n (omega arith) in
    rw (lt-ltb (n % 10) 10 small) (and_from (nat_le 48 (48 + n % 10)) (nat_le (48 + n % 10) 57)
    (le-leb 48 (48 + n % 10) (omega arith)) (le-leb (48 + n % 10) 57 (omega (arith, small))))

digits_plain : (b : ℕ) (bs : List ℕ) → list_all is_digit (b ∷ bs) ≡ true → IsPlain (b ∷ bs)
digits_plain b bs h =
    let p = and_parts (is_digit b) (list_all is_digit bs) h in
    plain_word b bs (digit_starts b p.0) (weaker is_digit is_ink (λ c e. start_is_ink c (digit_starts c e)) bs p.1)

-- more digits before digits
onto_plain : (k n b : ℕ) (bs : List ℕ) → list_all is_digit (b ∷ bs) ≡ true → IsPlain (digits_onto k 10 false n (b ∷ bs))
onto_plain zero n b bs h = digits_plain b bs h
onto_plain (suc k) n b bs h =
    let g = digit_glyph false (n % 10) in
    let more : list_all is_digit (g ∷ b ∷ bs) ≡ true = and_from (is_digit g) (list_all is_digit (b ∷ bs))
    (glyph_digit n) h in
    cond_both (n / 10 == 0) (g ∷ b ∷ bs) (digits_onto k 10 false (n / 10) (g ∷ b ∷ bs)) IsPlain
    (λ last. digits_plain g (b ∷ bs) more) (λ goes_on. onto_plain k (n / 10) g (b ∷ bs) more)

numeral_plain : (k n : ℕ) → IsPlain (digits_onto (suc k) 10 false n [])
numeral_plain k n =
    let g = digit_glyph false (n % 10) in
    let one : list_all is_digit (g ∷ []) ≡ true = and_from (is_digit g) true (glyph_digit n) refl in
    cond_both (n / 10 == 0) (g ∷ []) (digits_onto k 10 false (n / 10) (g ∷ [])) IsPlain (λ last. digits_plain g [] one)
    (λ goes_on. onto_plain k (n / 10) g [] one)

pub decimal_plain : (n : ℕ) → IsPlain (decimal n)
unfolding digits
decimal_plain n = numeral_plain 63 n

pub signed_plain : (z : ℤ) → IsPlain (signed_decimal z)
signed_plain (pos n) = decimal_plain n
signed_plain (negsuc n) = inks_of (decimal (suc n)) (decimal_plain (suc n))

pub label_plain : (pc : ℕ) → IsPlain (label pc)
label_plain pc = inks_of (decimal pc) (decimal_plain pc)
