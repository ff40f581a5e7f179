-- A class's flags in its file, where a class has SUPER and an interface hasn't (JVMS 4.1).
use Rattle.std.proofs.Common.{◌≡◌, ℕ, ◌^◌, ◌<◌, Bool, true, false, not, ◌&&◌, ◌||◌, eqb, refl, sym, ap, ◌∙◌, inl, inr}
use Rattle.std.proofs.Common.{arith}
use Rattle.std.specs.Prelude.{bit_and, bit_or}
use Rattle.std.specs.Int.{w16, bit_at}
use Rattle.std.proofs.lemmas.Bool.{eqb-true}
use Rattle.std.proofs.lemmas.Bool.Decides.{eqb_tells}
use Rattle.std.proofs.lemmas.Nat.{and_le_r, and_or_apart, or_of_16}
use Rattle.std.proofs.lemmas.Nat.Bits.{and_pow, bit_at_clear_same, bit_at_clear_other, bit_at_set_other}
use Rattle.std.proofs.lemmas.Nat.Bits.{same_from_bits_below}
use Rattle.model.specs.ClassFiles.Heads.{are_class_flags}
use Rattle.model.specs.Texts.Flags.{has}

no_bit : (f : ℕ) → has f 0x0020 ≡ false → bit_at f 5 ≡ 0
no_bit f h = by (eqb (bit_and f 32) 0) refl h
  where
    by : (b : Bool) → eqb (bit_and f 32) 0 ≡ b → not b ≡ false → bit_at f 5 ≡ 0
    by true e g = let none : bit_and f 32 ≡ 0 = eqb-true (bit_and f 32) 0 e in omega (arith, none, and_pow f 5)
    by false e g = absurd cc

short : (a : ℕ) → bit_and a 0xffdf < 2 ^ 16
short a = omega (arith, and_le_r a 0xffdf)

-- flags without SUPER stay when it is left out
pub left_out : (f : ℕ) → f < 2 ^ 16 → has f 0x0020 ≡ false → bit_and f 0xffdf ≡ f
left_out f small h = same_from_bits_below 16 (bit_and f 0xffdf) f (short f) small each
  where
    each : (i : ℕ) → i < 16 → bit_at (bit_and f 0xffdf) i ≡ bit_at f i
    each i lt = elim (eqb_tells i 5) [
      | inl same ↦ ap (bit_at (bit_and f 0xffdf)) same.1 ∙ bit_at_clear_same w16 f 5 (omega arith) ∙ sym (no_bit f h)
          ∙ ap (bit_at f) (sym same.1)
      | inr other ↦ bit_at_clear_other w16 f 5 (omega arith) i lt other.1
    ]

-- and so they do when it is added first
pub again : (f : ℕ) → f < 2 ^ 16 → has f 0x0020 ≡ false → bit_and (bit_or f 0x0020) 0xffdf ≡ f
again f small h = same_from_bits_below 16 (bit_and (bit_or f 0x0020) 0xffdf) f (short (bit_or f 0x0020)) small each
  where
    each : (i : ℕ) → i < 16 → bit_at (bit_and (bit_or f 0x0020) 0xffdf) i ≡ bit_at f i
    each i lt = elim (eqb_tells i 5) [
      | inl same ↦ ap (bit_at (bit_and (bit_or f 0x0020) 0xffdf)) same.1 ∙ bit_at_clear_same w16 (bit_or f 0x0020) 5
          (omega arith) ∙ sym (no_bit f h) ∙ ap (bit_at f) (sym same.1)
      | inr other ↦ bit_at_clear_other w16 (bit_or f 0x0020) 5 (omega arith) i lt other.1
          ∙ bit_at_set_other w16 f 5 (omega arith) i other.1
    ]

-- SUPER goes with all flags that a class's go with
has_still : (f bit : ℕ) → bit_and 32 bit ≡ 0 → has (bit_or f 0x0020) bit ≡ has f bit
has_still f bit apart = ap (λ k. not (eqb k 0)) (and_or_apart bit f 32 apart)

pub interface_still : (f : ℕ) → has (bit_or f 0x0020) 0x0200 ≡ has f 0x0200
interface_still f = has_still f 0x0200 refl

pub agree_still : (f : ℕ) → are_class_flags (bit_or f 0x0020) ≡ are_class_flags f
agree_still f =
    ap (λ k. (eqb k 0 && (not (has (bit_or f 0x0020) 0x0200) || has (bit_or f 0x0020) 0x0400))
    && not (has (bit_or f 0x0020) 0x0010 && has (bit_or f 0x0020) 0x0400)) (and_or_apart 0xf9ce f 32 refl)
    ∙ ap (λ b. (eqb (bit_and f 0xf9ce) 0 && (not b || has (bit_or f 0x0020) 0x0400))
    && not (has (bit_or f 0x0020) 0x0010 && has (bit_or f 0x0020) 0x0400)) (has_still f 0x0200 refl)
    ∙ ap (λ b. (eqb (bit_and f 0xf9ce) 0 && (not (has f 0x0200) || b)) && not (has (bit_or f 0x0020) 0x0010 && b))
    (has_still f 0x0400 refl)
    ∙ ap (λ b. (eqb (bit_and f 0xf9ce) 0 && (not (has f 0x0200) || has f 0x0400)) && not (b && has f 0x0400))
    (has_still f 0x0010 refl)

pub or_is_short : (f : ℕ) → f < 2 ^ 16 → bit_or f 0x0020 < 2 ^ 16
or_is_short f small = or_of_16 f 0x0020 small (omega arith)
