-- Flags of a table have no other bits than the table's.
use Rattle.std.proofs.Common.{◌≡◌, ℕ, ◌<◌, ◌^◌, Bool, true, false, not, ◌&&◌, ◌==◌, List, [], ◌∷◌, refl, sym, ap, ◌∙◌}
use Rattle.std.proofs.Common.{arith, inl, inr, Some, None, Option}
use Rattle.std.specs.Prelude.{IfSome, bit_and, bit_or, nat_le}
use Rattle.std.specs.List.{list_all}
use Rattle.std.proofs.lemmas.Bool.Decides.{eqb_tells, leb_tells}
use Rattle.std.proofs.lemmas.Nat.{and_assoc, and_comm, and_or_apart, or_of_16}
use Rattle.model.specs.ClassFiles.Methods.{wants_code}
use Rattle.model.specs.Texts.Flags.{has, with_flag, flagged, flags_and_word}
use Rattle.model.specs.Texts.Spelled.{is_u2}
use Rattle.model.specs.Texts.Tables.{named}
use Rattle.jasmin.proofs.Spelled.Partial.{both_true, and_true, of_test, in_table}

-- flags of two bytes without the bits of a mask
abbrev pub lacks : ℕ → ℕ → Bool
lacks mask flags = is_u2 flags && bit_and flags mask == 0

pub same_from : (a b : ℕ) → (a == b) ≡ true → a ≡ b
same_from a b h = elim (eqb_tells a b) [ inl t ↦ t.1 | inr f ↦ absurd (let k : true ≡ false = sym h ∙ f.0 in cc) ]

pub small_from : (n : ℕ) → is_u2 n ≡ true → n < 2 ^ 16
small_from n h = elim (leb_tells n 65535) [
  | inl t ↦ omega arith
  | inr f ↦ absurd (let k : true ≡ false = sym h ∙ f.0 in cc)
]

pub small_is : (n : ℕ) → n < 2 ^ 16 → is_u2 n ≡ true
small_is n h = elim (leb_tells n 65535) [ inl t ↦ t.0 | inr f ↦ absurd (omega arith) ]

pub with_bit_lacks : (mask flags bit : ℕ) → lacks mask flags ≡ true → lacks mask bit ≡ true
    → lacks mask (bit_or flags bit) ≡ true
with_bit_lacks mask flags bit h k =
    let parts = both_true (is_u2 flags) (bit_and flags mask == 0) h in
    let of_bit = both_true (is_u2 bit) (bit_and bit mask == 0) k in
    let same : bit_and (bit_or flags bit) mask ≡ bit_and flags mask = and_or_apart mask flags bit
    (same_from (bit_and bit mask) 0 of_bit.1) in
    and_true (is_u2 (bit_or flags bit)) (bit_and (bit_or flags bit) mask == 0)
    (small_is (bit_or flags bit) (or_of_16 flags bit (small_from flags parts.0) (small_from bit of_bit.0)))
    (ap (λ n. n == 0) same ∙ parts.1)

pub with_flag_lacks : (mask flags : ℕ) (bit : Option ℕ) → lacks mask flags ≡ true
    → IfSome bit (λ b. lacks mask b ≡ true) → IfSome (with_flag flags bit) (λ n. lacks mask n ≡ true)
with_flag_lacks mask flags None h k = tt
with_flag_lacks mask flags (Some bit) h k = of_test (λ n. lacks mask n ≡ true) (has flags bit) None
    (Some (bit_or flags bit)) (λ t. tt) (λ f. with_bit_lacks mask flags bit h k)

module _ (mask : ℕ) (table : List (List ℕ × ℕ)) (rows : list_all (λ row. lacks mask row.1) table ≡ true) where
  flagged_lacks : (flags : Option ℕ) (word : List ℕ) (words : List (List ℕ)) → IfSome flags (λ n. lacks mask n ≡ true)
      → IfSome (flagged table flags word words) (λ p. lacks mask p.0 ≡ true)
  flagged_lacks None word [] h = tt
  flagged_lacks None word (next ∷ words) h = tt
  flagged_lacks (Some flags) word [] h = h
  flagged_lacks (Some flags) word (next ∷ words) h =
      flagged_lacks (with_flag flags (named table word)) next words (with_flag_lacks mask flags (named table word) h
      (in_table (lacks mask) table word rows))

  -- the flags in front of a word
  pub flags_lack : (words : List (List ℕ)) → nat_le 0 65535 ≡ true → bit_and 0 mask ≡ 0
      → IfSome (flags_and_word table words) (λ p. lacks mask p.0 ≡ true)
  flags_lack [] h k = tt
  flags_lack (word ∷ words) h k = flagged_lacks (Some 0) word words (and_true (is_u2 0) (bit_and 0 mask == 0) h
      (ap (λ n. n == 0) k))

-- ---- whether a method has code

pub has_none : (flags bit : ℕ) → has flags bit ≡ false → bit_and flags bit ≡ 0
has_none flags bit h = by (bit_and flags bit == 0) refl h
  where
    by : (t : Bool) → (bit_and flags bit == 0) ≡ t → not t ≡ false → bit_and flags bit ≡ 0
    by true e k = same_from (bit_and flags bit) 0 e
    by false e k = absurd cc

pub none_has : (flags bit : ℕ) → bit_and flags bit ≡ 0 → has flags bit ≡ false
none_has flags bit h = ap (λ n. not (n == 0)) h

-- a bit of several that are not set
pub part_of_none : (flags all bit : ℕ) → bit_and all bit ≡ bit → bit_and flags all ≡ 0 → bit_and 0 bit ≡ 0
    → bit_and flags bit ≡ 0
part_of_none flags all bit e h z = ap (bit_and flags) (sym e) ∙ sym (and_assoc bit flags all)
    ∙ ap (λ n. bit_and n bit) h ∙ z

both_none : (flags a b : ℕ) → bit_and flags a ≡ 0 → bit_and flags b ≡ 0 → bit_and flags (bit_or a b) ≡ 0
both_none flags a b h k = and_comm flags (bit_or a b) ∙ and_or_apart flags a b (and_comm b flags ∙ k) ∙ and_comm a flags
    ∙ h

neither : (a b c : Bool) → (c ≡ false → (a ≡ false) × (b ≡ false)) → (a ≡ false → b ≡ false → c ≡ false)
    → (not a && not b) ≡ not c
neither true b true h k = refl
neither true b false h k = let e = (h refl).0 in absurd cc
neither false true true h k = refl
neither false true false h k = let e = (h refl).1 in absurd cc
neither false false true h k = let e = k refl refl in absurd cc
neither false false false h k = refl

pub wants : (flags : ℕ) → wants_code flags ≡ not (has flags 0x0500)
wants flags =
    neither (has flags 0x0400) (has flags 0x0100) (has flags 0x0500)
    (λ h.
    let none = has_none flags 0x0500 h in (
      none_has flags 0x0400 (part_of_none flags 0x0500 0x0400 refl none refl),
      none_has flags 0x0100 (part_of_none flags 0x0500 0x0100 refl none refl),
    ))
    (λ h k. none_has flags 0x0500 (both_none flags 0x0400 0x0100 (has_none flags 0x0400 h) (has_none flags 0x0100 k)))
