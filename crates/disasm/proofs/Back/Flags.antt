-- The words of flags are read back as the flags, where these have no bit but those of their table.
use Rattle.std.proofs.Common.{◌≡◌, ℕ, suc, zero, ◌-◌, ◌*◌, ◌^◌, ◌<◌, Bool, true, false, not, ◌==◌, nat_le, min, max}
use Rattle.std.proofs.Common.{List, [], ◌∷◌, ◌++◌, Option, Some, None, refl, sym, ap, ap₂, ◌∙◌, arith, append_assoc}
use Rattle.std.proofs.Common.{leb-true, eqb-true}
use Rattle.std.specs.Prelude.{bit_and, bit_or, if◌then◌else◌}
use Rattle.std.specs.Int.{bit_at}
use Rattle.std.specs.Int.Bits.{and_zero_r, or_zero_r}
use Rattle.std.specs.List.{list_all}
use Rattle.std.proofs.lemmas.Bool.{and_parts, and_from}
use Rattle.std.proofs.lemmas.Nat.{and_assoc, and_mask}
use Rattle.std.proofs.lemmas.Nat.Bits.{bit_at_and, bit_at_or, bit_at-lt, and_pow, same_from_bits}
use Rattle.model.specs.Texts.Flags.{has, with_flag, flagged, flags_and_word}
use Rattle.model.specs.Texts.Tables.{named}
use Rattle.disasm.specs.Statements.{flag_words, flags_words}
use Rattle.disasm.proofs.Back.Lists.{all_joined}

-- ---- bits

lattice : (x y z : ℕ) → min x (max y z) ≡ max (min x y) (min x z)
lattice x y z = omega arith

pub and_over_or : (a b c : ℕ) → bit_and a (bit_or b c) ≡ bit_or (bit_and a b) (bit_and a c)
and_over_or a b c =
    same_from_bits (bit_and a (bit_or b c)) (bit_or (bit_and a b) (bit_and a c))
    (λ i. bit_at_and a (bit_or b c) i ∙ ap (min (bit_at a i)) (bit_at_or b c i)
    ∙ lattice (bit_at a i) (bit_at b i) (bit_at c i)
    ∙ sym (bit_at_or (bit_and a b) (bit_and a c) i ∙ ap₂ max (bit_at_and a b i) (bit_at_and a c i)))

-- a bit that is set is the whole of what is kept of it
pub bit_kept : (flags k : ℕ) → has flags (2 ^ k) ≡ true → bit_and flags (2 ^ k) ≡ 2 ^ k
bit_kept flags k e = by (bit_at flags k) (bit_at-lt flags k) (and_pow flags k) e
  where
    by : (n : ℕ) → n < 2 → bit_and flags (2 ^ k) ≡ n * 2 ^ k → not (bit_and flags (2 ^ k) == 0) ≡ true
        → bit_and flags (2 ^ k) ≡ 2 ^ k
    by zero small is e =
        let none : 0 * 2 ^ k ≡ 0 = omega arith in
        absurd (both (sym e ∙ ap (λ n. not (n == 0)) (is ∙ none)))
      where
        both : true ≡ false → ⊥
        both e = cc
    by (suc zero) small is e = is ∙ omega arith
    by (suc (suc n)) small is e = absurd (omega (arith, small))

pub bit_clear : (flags bit : ℕ) → has flags bit ≡ false → bit_and flags bit ≡ 0
bit_clear flags bit e = by (bit_and flags bit == 0) refl e
  where
    by : (t : Bool) → (bit_and flags bit == 0) ≡ t → not t ≡ false → bit_and flags bit ≡ 0
    by true e k = eqb-true (bit_and flags bit) 0 e
    by false e k = absurd cc

pub bit_none : (flags bit : ℕ) → bit_and flags bit ≡ 0 → has flags bit ≡ false
bit_none flags bit e = ap (λ n. not (n == 0)) e

-- flags of two bytes without some bits are what is kept by the others
pub kept_whole : (flags all others : ℕ) → nat_le flags 65535 ≡ true → bit_or all others ≡ 2 ^ 16 - 1
    → (bit_and flags others == 0) ≡ true → bit_and flags all ≡ flags
kept_whole flags all others small whole none =
    let le = leb-true flags 65535 small in
    let kept : bit_and flags (bit_or all others) ≡ flags = ap (bit_and flags) whole ∙ and_mask flags 16
    ∙ omega (arith, le) in
    sym (and_over_or flags all others ∙ ap (bit_or (bit_and flags all)) (eqb-true (bit_and flags others) 0 none)
    ∙ or_zero_r (bit_and flags all)) ∙ kept

-- ---- the words of a table

-- rows after those whose bits are in a mask: each has a bit of its own, and its word stands for it
abbrev pub RowsFit : List (List ℕ × ℕ) → ℕ → List (List ℕ × ℕ) → Type 0
RowsFit table mask [] = Unit {0}
RowsFit table mask (row ∷ rows) = (k : ℕ) × (row.1 ≡ 2 ^ k) × (bit_and mask row.1 ≡ 0)
    × (named table row.0 ≡ Some row.1) × RowsFit table (bit_or mask row.1) rows

abbrev pub bits_of : ℕ → List (List ℕ × ℕ) → ℕ
bits_of mask [] = mask
bits_of mask (row ∷ rows) = bits_of (bit_or mask row.1) rows

-- words of rows pass a test that the table's words pass
rows_pass : (plain : List ℕ → Bool) (flags : ℕ) (rows : List (List ℕ × ℕ)) → list_all (λ r. plain r.0) rows ≡ true
    → list_all plain (flags_words rows flags) ≡ true
rows_pass plain flags [] e = refl
rows_pass plain flags (row ∷ rows) e =
    let parts = and_parts (plain row.0) (list_all (λ r. plain r.0) rows) e in
    all_joined plain (flag_words flags row) (flags_words rows flags) (one (has flags row.1) parts.0)
    (rows_pass plain flags rows parts.1)
  where
    one : (b : Bool) → plain row.0 ≡ true → list_all plain (if b then row.0 ∷ [] else []) ≡ true
    one true e = and_from (plain row.0) true e refl
    one false e = refl

-- a reader of words that takes a flag's word for its bit, where other words of flags and the last words follow
module _ {R : Type 0} (reads : Option ℕ → List (List ℕ) → R) (table : List (List ℕ × ℕ)) (plain : List ℕ
    → Bool) (last : List (List ℕ))
    (takes : (flags : ℕ) (word : List ℕ) (words : List (List ℕ)) → list_all plain words ≡ true
    → reads (Some flags) (word ∷ words ++ last) ≡ reads (with_flag flags (named table word)) (words ++ last)) where
  row_read : (flags mask : ℕ) (row : List ℕ × ℕ) (words : List (List ℕ)) (k : ℕ) → row.1 ≡ 2 ^ k → bit_and mask row.1
      ≡ 0 → named table row.0 ≡ Some row.1 → list_all plain words ≡ true
      → reads (Some (bit_and flags mask)) (flag_words flags row ++ (words ++ last))
      ≡ reads (Some (bit_and flags (bit_or mask row.1))) (words ++ last)
  row_read flags mask row words k power apart means pass = by (has flags row.1) refl
    where
      kept : has flags row.1 ≡ true → bit_or (bit_and flags mask) row.1 ≡ bit_and flags (bit_or mask row.1)
      kept e =
          ap (bit_or (bit_and flags mask)) (power ∙ sym (bit_kept flags k (ap (has flags) (sym power) ∙ e))
          ∙ ap (bit_and flags) (sym power)) ∙ sym (and_over_or flags mask row.1)

      new : has (bit_and flags mask) row.1 ≡ false
      new = bit_none (bit_and flags mask) row.1 (and_assoc row.1 flags mask ∙ ap (bit_and flags) apart
          ∙ and_zero_r flags)

      by : (b : Bool) → has flags row.1 ≡ b → reads (Some (bit_and flags mask)) ((if b then row.0 ∷ [] else [])
          ++ (words ++ last)) ≡ reads (Some (bit_and flags (bit_or mask row.1))) (words ++ last)
      by true e = takes (bit_and flags mask) row.0 words pass
          ∙ ap (λ o. reads o (words ++ last)) (ap (with_flag (bit_and flags mask)) means ∙ rw new (ap Some (kept e)))
      by false e = ap (λ n. reads (Some n) (words ++ last))
          (sym (and_over_or flags mask row.1 ∙ ap (bit_or (bit_and flags mask)) (bit_clear flags row.1 e)
          ∙ or_zero_r (bit_and flags mask)))

  pub rows_read : (flags mask : ℕ) (rows : List (List ℕ × ℕ)) → RowsFit table mask rows → list_all (λ r. plain r.0) rows
      ≡ true
      → reads (Some (bit_and flags mask)) (flags_words rows flags ++ last)
      ≡ reads (Some (bit_and flags (bits_of mask rows))) last
  rows_read flags mask [] fit pass = refl
  rows_read flags mask (row ∷ rows) fit pass =
      let parts = and_parts (plain row.0) (list_all (λ r. plain r.0) rows) pass in
      ap (reads (Some (bit_and flags mask))) (append_assoc (flag_words flags row) (flags_words rows flags) last)
      ∙ row_read flags mask row (flags_words rows flags) fit.0 fit.1 fit.2 fit.3 (rows_pass plain flags rows parts.1)
      ∙ rows_read flags (bit_or mask row.1) rows fit.4 parts.1

-- ---- flags and one word

abbrev flagged_words : List (List ℕ × ℕ) → Option ℕ → List (List ℕ) → Option (ℕ × List ℕ)
flagged_words table o [] = None
flagged_words table o (word ∷ words) = flagged table o word words

taken : (table : List (List ℕ × ℕ)) (name : List ℕ) (flags : ℕ) (word : List ℕ) (words : List (List ℕ))
    → list_all (λ w. true) words ≡ true
    → flagged_words table (Some flags) (word ∷ words ++ name ∷ [])
    ≡ flagged_words table (with_flag flags (named table word)) (words ++ name ∷ [])
taken table name flags word [] e = refl
taken table name flags word (w ∷ ws) e = refl

begun : (table : List (List ℕ × ℕ)) (words : List (List ℕ)) → flags_and_word table words
    ≡ flagged_words table (Some 0) words
begun table [] = refl
begun table (w ∷ ws) = refl

pub flags_read : (table : List (List ℕ × ℕ)) (flags : ℕ) (name : List ℕ) → RowsFit table 0 table
    → list_all (λ (r : List ℕ × ℕ). true) table ≡ true
    → flags_and_word table (flags_words table flags ++ name ∷ []) ≡ Some (bit_and flags (bits_of 0 table), name)
flags_read table flags name fit pass =
    begun table (flags_words table flags ++ name ∷ [])
    ∙ ap (λ n. flagged_words table (Some n) (flags_words table flags ++ name ∷ [])) (sym (and_zero_r flags))
    ∙ rows_read (flagged_words table) table (λ w. true) (name ∷ []) (taken table name) flags 0 table fit pass
