-- What a position in a list tells.
use Rattle.std.proofs.Common.{◌≡◌, ℕ, suc, ◌+◌, ◌<◌, ◌≤◌, Bool, true, false, ◌&&◌, List, length, refl, arith, inl, inr}
use Rattle.std.proofs.Common.{Some, None}
use Rattle.std.specs.List.{position, position_or_len}
use Rattle.std.specs.Prelude.{◌⊎◌}
use Rattle.std.proofs.lemmas.Bool.Decides.{leb_tells}

pub one_add : (n : ℕ) → 1 + n ≡ suc n
one_add n = omega arith

pub suc_add_one : (n : ℕ) → suc n + 1 ≡ suc (n + 1)
suc_add_one n = omega arith

pub and_false : (t : Bool) → (t && false) ≡ false
and_false true = refl
and_false false = refl

pub bool_tells : (t : Bool) → (t ≡ true) ⊎ (t ≡ false)
bool_tells true = inl refl
bool_tells false = inr refl

-- a place that was found is the first one
pub position_some : {A : Type 0} (p : A → Bool) (xs : List A) (n : ℕ) → Some n ≡ position p xs
    → (n ≡ position_or_len p xs) × (position_or_len p xs < length xs)
position_some p xs n found =
    elim (leb_tells (suc (position_or_len p xs)) (length xs)) [
      | inl t ↦ let h = rw t.0 at found in (cc, omega arith)
      | inr f ↦ let h = rw f.0 at found in cc
    ]

pub position_none : {A : Type 0} (p : A → Bool) (xs : List A) → None ≡ position p xs → length xs ≤ position_or_len p xs
position_none p xs none =
    elim (leb_tells (suc (position_or_len p xs)) (length xs)) [
      | inl t ↦ let h = rw t.0 at none in cc
      | inr f ↦ omega arith
    ]
