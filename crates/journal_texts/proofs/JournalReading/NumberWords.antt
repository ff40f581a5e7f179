-- Words that are read as numbers, by what std parses of them and what prints.
use Rattle.std.proofs.Common.{◌≡◌, ℕ, true, false, List, Some, None, Result, Ok, Err, decimal, bytes_eq, sym, ap, subst}
use Rattle.std.proofs.Common.{◌∙◌, ◌<◌, ◌≤◌, ◌+◌, ◌-◌, ◌∷◌, [], length, refl, suc, zero, arith}
use Rattle.std.specs.Fmt.{digits}
use Rattle.std.specs.Prelude.{slice_index_or}
use Rattle.std.proofs.lemmas.Fmt.{IsAscii-decimal, parse-decimal}
use Rattle.std.proofs.lemmas.Slice.Eq.{bytes_eq-Decides}
use Rattle.std.proofs.lemmas.Str.{IsUtf8-from_ascii}
use Rattle.std.specs.Str.{IsUtf8}
use Rattle.std.specs.Str.Parse.{ParsesUnsigned}
use Rattle.journal_texts.specs.JournalReading.{number_of}
use Rattle.journal_texts.proofs.JournalReading.Readers.{number_back, no_number}

pub not_text : (word : List ℕ) → ¬ IsUtf8 word → number_of word ≡ None
not_text word not = no_number word
    (λ n small e. not (subst IsUtf8 (sym e) (IsUtf8-from_ascii (decimal n) (IsAscii-decimal n (omega (arith, small))))))

module _ (E : Type 0) (word : List ℕ) where
  pub not_parsed : (e : E) → ParsesUnsigned {E = E} 32 10 word (Err e) → number_of word ≡ None
  not_parsed e parses = no_number word (λ n small is. let read : ◌≡◌ {A = Result ℕ E} (Err e) (Ok n) = parse-decimal
      {E = E} 32 n word (Err e) small (omega (arith, small)) is
      parses in cc)

  pub printed : (n : ℕ) → ParsesUnsigned {E = E} 32 10 word (Ok n) → bytes_eq (decimal n) word ≡ true → number_of word
      ≡ Some n
  printed n parses same =
      let value = parses.1 in
      let below = parses.0.1 in
      ap number_of (sym ((bytes_eq-Decides (decimal n) word).0 same)) ∙ number_back n (omega (arith, value, below))

  pub not_printed : (n : ℕ) → ParsesUnsigned {E = E} 32 10 word (Ok n) → bytes_eq (decimal n) word ≡ false
      → number_of word ≡ None
  not_printed n parses other = no_number word
      (λ m small is. both m is (parse-decimal {E = E} 32 m word (Ok n) small (omega (arith, small)) is parses))
    where
      both : (m : ℕ) → word ≡ decimal m → ◌≡◌ {A = Result ℕ E} (Ok n) (Ok m) → ⊥
      both m is read =
          let number : n ≡ m = cc in
          let same = (bytes_eq-Decides (decimal n) word).1 (ap decimal number ∙ sym is) in
          cc

-- a digit alone prints as its number
digit_alone : (k : ℕ) → k < 10 → number_of ((k + 48) ∷ []) ≡ Some k
unfolding digits
digit_alone zero small = refl
digit_alone (suc zero) small = refl
digit_alone (suc (suc zero)) small = refl
digit_alone (suc (suc (suc zero))) small = refl
digit_alone (suc (suc (suc (suc zero)))) small = refl
digit_alone (suc (suc (suc (suc (suc zero))))) small = refl
digit_alone (suc (suc (suc (suc (suc (suc zero)))))) small = refl
digit_alone (suc (suc (suc (suc (suc (suc (suc zero))))))) small = refl
digit_alone (suc (suc (suc (suc (suc (suc (suc (suc zero)))))))) small = refl
digit_alone (suc (suc (suc (suc (suc (suc (suc (suc (suc zero))))))))) small = refl
digit_alone (suc (suc (suc (suc (suc (suc (suc (suc (suc (suc k)))))))))) small = absurd (omega (arith, small))

one-byte : (word : List ℕ) → 1 ≤ length word → length word < 2 → word ≡ slice_index_or word 0 0 ∷ []
one-byte [] some few = absurd (omega (arith, some))
one-byte (b ∷ []) some few = refl
one-byte (b ∷ c ∷ word) some few = absurd (omega (arith, few))

pub digit : (word : List ℕ) → 1 ≤ length word → length word < 2 → 48 ≤ slice_index_or word 0 0
    → slice_index_or word 0 0 < 58 → number_of word ≡ Some (slice_index_or word 0 0 - 48)
digit word some few least most =
    let b = slice_index_or word 0 0 in
    let k : b ≡ b - 48 + 48 = omega (arith, least) in
    ap number_of (one-byte word some few ∙ ap (λ (n : ℕ). n ∷ []) k) ∙ digit_alone (b - 48) (omega (arith, most))
