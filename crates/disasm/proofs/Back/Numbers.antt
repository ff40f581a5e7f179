-- Numbers that are written in the decimal system are read back.
use Rattle.std.proofs.Common.{◌≡◌, ℕ, ℤ, pos, negsuc, neg_ℤ, suc, ◌+◌, ◌-◌, ◌*◌, ◌/◌, ◌%◌, ◌^◌, ◌<◌, ◌≤◌, Bool, true}
use Rattle.std.proofs.Common.{false, not, ◌&&◌, ◌==◌, nat_le, int_le, List, [], ◌∷◌, ◌++◌, decimal, codes, bytes_eq}
use Rattle.std.proofs.Common.{Some, refl, sym, ap, ◌∙◌, inl, inr, ◌⊎◌, arith, le-leb, leb-true, ne_eqb}
use Rattle.std.specs.Fmt.{signed_decimal}
use Rattle.std.specs.List.{list_all}
use Rattle.std.proofs.lemmas.Bool.{and_parts, and_from, cases_eq}
use Rattle.std.proofs.lemmas.Fmt.{decimal_by_steps_wide}
use Rattle.model.specs.Texts.Numbers.{is_digit, is_positive_numeral, decimal_from, natural_of, nonnegative_of}
use Rattle.model.specs.Texts.Numbers.{number_of, number_in, natural_to}
use Rattle.disasm.proofs.Back.Lists.{all_joined}

-- ---- digits

-- digits of a number
record Digits (n : ℕ) (ds : List ℕ) : Type 0 where
  pub each : list_all is_digit ds ≡ true
  pub value : decimal_from 0 ds ≡ n
  pub begins : (n ≡ 0) × (ds ≡ 48 ∷ []) ⊎ (0 < n) × (is_positive_numeral ds ≡ true)

digit_is : (d : ℕ) → d < 10 → is_digit (48 + d) ≡ true
digit_is d small = and_from (nat_le 48 (48 + d)) (nat_le (48 + d) 57) (le-leb 48 (48 + d) (omega arith))
    (le-leb (48 + d) 57 (omega arith))

one_more : (ds : List ℕ) (k d : ℕ) → decimal_from k (ds ++ d ∷ []) ≡ 10 * decimal_from k ds + (d - 48)
one_more [] k d = refl
one_more (e ∷ ds) k d = one_more ds (10 * k + (e - 48)) d

still_positive : (ds : List ℕ) (d : ℕ) → is_positive_numeral ds ≡ true → is_digit d ≡ true
    → is_positive_numeral (ds ++ d ∷ []) ≡ true
still_positive [] d e f = absurd cc
still_positive (x ∷ ds) d e f =
    let parts = and_parts (is_digit x && not (x == 48)) (list_all is_digit ds) e in
    and_from (is_digit x && not (x == 48)) (list_all is_digit (ds ++ d ∷ [])) parts.0
    (all_joined is_digit ds (d ∷ []) parts.1 (and_from (is_digit d) true f refl))

positive_digit : (d : ℕ) → 0 < d → d < 10 → is_positive_numeral ((48 + d) ∷ []) ≡ true
positive_digit d some small = rw (digit_is d small, ne_eqb (48 + d) 48 (λ e. absurd (omega (arith, e)))) refl

one_digit : (n : ℕ) → n < 10 → Digits n ((48 + n) ∷ [])
one_digit n small = record {
  each = and_from (is_digit (48 + n)) true (digit_is n small) refl;
  value = omega arith;
  begins = elim (cases_eq n 0) [
    | inl zero ↦ inl (zero, ap (λ k. (48 + k) ∷ []) zero)
    | inr other ↦
        inr (omega (arith, other), positive_digit n (omega (arith, other)) small)
  ];
}

positive_begins : (n : ℕ) (ds : List ℕ) → 0 < n → Digits n ds → is_positive_numeral ds ≡ true
positive_begins n ds some h = elim (h.begins) [ inl zero ↦ absurd (omega (arith, zero.0)) | inr more ↦ more.1 ]

more_digits : (n : ℕ) (ds : List ℕ) → 10 ≤ n → Digits (n / 10) ds → Digits n (ds ++ (48 + n % 10) ∷ [])
more_digits n ds big h =
    let last = digit_is (n % 10) (omega arith) in
    let value = h.value in
    record {
      each = all_joined is_digit ds ((48 + n % 10) ∷ []) h.each (and_from (is_digit (48 + n % 10)) true last refl);
      value = one_more ds 0 (48 + n % 10) ∙ ap (λ k. 10 * k + (48 + n % 10 - 48)) value ∙ omega arith;
      begins = inr (omega arith, still_positive ds (48 + n % 10) (positive_begins (n / 10) ds (omega arith) h) last);
    }

digits_of : (n : ℕ) → n < 10 ^ 64 → Digits n (decimal n)
digits_of n small = decimal_by_steps_wide Digits one_digit more_digits n small

pub each_digit : (n : ℕ) → n < 10 ^ 64 → list_all is_digit (decimal n) ≡ true
each_digit n small = (digits_of n small).each

-- ---- numbers

positive_back : (n : ℕ) (ds : List ℕ) → decimal_from 0 ds ≡ n → is_positive_numeral ds ≡ true → natural_of ds ≡ Some n
positive_back n ds value positive = elim (bool (bytes_eq ds (codes "0"))) [
  | inl e ↦ rw (e, value) refl
  | inr e ↦ rw (e, positive, value) refl
]
  where
    bool : (b : Bool) → (b ≡ true) ⊎ (b ≡ false)
    bool true = inl refl
    bool false = inr refl

pub natural_back : (n : ℕ) → n < 10 ^ 64 → natural_of (decimal n) ≡ Some n
natural_back n small =
    let h = digits_of n small in
    elim (h.begins) [
      | inl zero ↦ ap natural_of zero.1 ∙ ap Some (sym zero.0)
      | inr more ↦ positive_back n (decimal n) h.value more.1
    ]

no_minus : (word : List ℕ) (n : ℕ) → list_all is_digit word ≡ true → natural_of word ≡ Some n → number_of word
    ≡ Some (pos n)
no_minus [] n each e = absurd cc
no_minus (b ∷ bs) n each e =
    let digit = and_parts (nat_le 48 b) (nat_le b 57) (and_parts (is_digit b) (list_all is_digit bs) each).0 in
    let low = leb-true 48 b digit.0 in
    rw (ne_eqb b 45 (λ same. absurd (omega (arith, same, low)))) (ap nonnegative_of e)

pub number_back : (n : ℕ) → n < 10 ^ 64 → number_of (decimal n) ≡ Some (pos n)
number_back n small = no_minus (decimal n) n (each_digit n small) (natural_back n small)

negative_back : (n : ℕ) → suc n < 10 ^ 64 → number_of (signed_decimal (negsuc n)) ≡ Some (negsuc n)
negative_back n small =
    let h = digits_of (suc n) small in
    rw (positive_begins (suc n) (decimal (suc n)) (omega arith) h) (ap (λ k. Some (neg_ℤ (pos k))) h.value)

pub natural_to_back : (high n : ℕ) → high < 10 ^ 64 → nat_le n high ≡ true → natural_to high (decimal n) ≡ Some n
natural_to_back high n big small = let le = leb-true n high small in rw (
  natural_back n (omega (arith, big, le)),
  small,
) refl

in_range : (low high z : ℤ) (word : List ℕ) → number_of word ≡ Some z → (int_le low z && int_le z high) ≡ true
    → number_in low high word ≡ Some z
in_range low high z word e within = rw (e, within) refl

not_above : (n b : ℕ) → int_le (pos n) (pos b) ≡ true → n ≤ b
not_above n b e = leb-true n b e

not_below : (n a : ℕ) → int_le (negsuc a) (negsuc n) ≡ true → n ≤ a
not_below n a e = leb-true n a e

-- a number from -(a + 1) to b
pub signed_back : (a b : ℕ) (z : ℤ) → suc a < 10 ^ 64 → b < 10 ^ 64 → (int_le (negsuc a) z && int_le z (pos b)) ≡ true
    → number_in (negsuc a) (pos b) (signed_decimal z) ≡ Some z
signed_back a b (pos n) low high e =
    let below = not_above n b (and_parts (int_le (negsuc a) (pos n)) (int_le (pos n) (pos b)) e).1 in
    in_range (negsuc a) (pos b) (pos n) (decimal n) (number_back n (omega (arith, below, high))) e
signed_back a b (negsuc n) low high e =
    let above = not_below n a (and_parts (int_le (negsuc a) (negsuc n)) (int_le (negsuc n) (pos b)) e).0 in
    in_range (negsuc a) (pos b) (negsuc n) (signed_decimal (negsuc n)) (negative_back n (omega (arith, above, low))) e

-- a count from a to b
pub count_back : (a b n : ℕ) → b < 10 ^ 64 → (nat_le a n && nat_le n b) ≡ true → number_in (pos a) (pos b) (decimal n)
    ≡ Some (pos n)
count_back a b n high e =
    let below = leb-true n b (and_parts (nat_le a n) (nat_le n b) e).1 in
    in_range (pos a) (pos b) (pos n) (decimal n) (number_back n (omega (arith, below, high))) e

-- ---- words that are no numbers

-- a number begins with a digit or a minus sign
digits_other : (bs : List ℕ) (w : ℕ) (ws : List ℕ) → list_all is_digit bs ≡ true → is_digit w ≡ false
    → bytes_eq bs (w ∷ ws) ≡ false
digits_other [] w ws e f = refl
digits_other (b ∷ bs) w ws e f = rw (other_digit b w (and_parts (is_digit b) (list_all is_digit bs) e).0 f) refl
  where
    other_digit : (b w : ℕ) → is_digit b ≡ true → is_digit w ≡ false → (b == w) ≡ false
    other_digit b w e f = ne_eqb b w (λ same. absurd (both (sym e ∙ ap is_digit same ∙ f)))
      where
        both : true ≡ false → ⊥
        both e = cc

pub number_other : (z : ℤ) (w : ℕ) (ws : List ℕ) → (int_le (negsuc 2147483647) z && int_le z (pos 2147483647)) ≡ true
    → is_digit w ≡ false → (45 == w) ≡ false → bytes_eq (signed_decimal z) (w ∷ ws) ≡ false
number_other (pos n) w ws e f g =
    let below = not_above n 2147483647 (and_parts (int_le (negsuc 2147483647) (pos n)) (int_le (pos n) (pos 2147483647))
    e).1 in
    digits_other (decimal n) w ws (each_digit n (omega (arith, below))) f
number_other (negsuc n) w ws e f g = rw g refl
