-- How the lines of a text begin, by the place of its first newline.
use Rattle.std.proofs.Common.{◌≡◌, ℕ, suc, ◌+◌, ◌-◌, ◌<◌, ◌≤◌, ◌==◌, Bool, true, false, ◌&&◌, List, [], ◌∷◌, length}
use Rattle.std.proofs.Common.{take, drop, refl, ap, arith, inl, inr, Some, None}
use Rattle.std.specs.List.{position, position_or_len, onto_first}
use Rattle.std.specs.Bool.{if◌then◌else◌}
use Rattle.std.specs.Cmp.Lexicographic.{pointwise}
use Rattle.std.proofs.lemmas.Bool.Decides.{eqb_tells}
use Rattle.std.specs.Prelude.{nat_eq}
use Rattle.jasmin_words.proofs.Places.{position_some, position_none, one_add, suc_add_one, and_false}
use Rattle.model.specs.Texts.Lines.{lines_of}
use Rattle.jasmin_words.specs.Returns.{without_return}

abbrev pub is_newline : ℕ → Bool
is_newline b = b == 10

abbrev place : List ℕ → ℕ
place bs = position_or_len is_newline bs

-- a text without a newline is a line, if it has a byte
pub lines_none : (b : ℕ) (bs : List ℕ) → length (b ∷ bs) ≤ place (b ∷ bs) → lines_of (b ∷ bs) ≡ (b ∷ bs) ∷ []
lines_none b [] none =
    elim (eqb_tells b 10) [
      | inl t ↦ let h = rw t.0 at none in absurd (omega (arith, h))
      | inr f ↦ rw (f.0, and_false) refl
    ]
lines_none b (c ∷ cs) none =
    elim (eqb_tells b 10) [
      | inl t ↦ let h = rw t.0 at none in absurd (omega (arith, h))
      | inr f ↦
          let h = rw f.0 at none in
          let e = lines_none c cs (omega (arith, h)) in
          elim (eqb_tells c 10) [
            | inl t ↦ let h2 = rw t.0 at h in absurd (omega (arith, h2))
            | inr g ↦ rw (f.0, g.0, and_false, rw g.0 at e) refl
          ]
    ]

-- a byte before a line that ends by a newline
before_line : (b c : ℕ) (cs : List ℕ) → lines_of (c ∷ cs) ≡ without_return (take (place (c ∷ cs)) (c ∷ cs))
    ∷ lines_of (drop (place (c ∷ cs) + 1) (c ∷ cs))
    → (if b == 13 && (c == 10) then lines_of (c ∷ cs) else onto_first b (lines_of (c ∷ cs)))
    ≡ without_return (b ∷ take (place (c ∷ cs)) (c ∷ cs)) ∷ lines_of (drop (place (c ∷ cs) + 1) (c ∷ cs))
before_line b c cs rest =
    elim (eqb_tells c 10) [
      | inl t ↦ elim (eqb_tells b 13) [ inl u ↦ rw (t.0, u.0) refl | inr g ↦ rw (t.0, g.0) refl ]
      | inr f ↦ rw (rest, f.0, and_false, one_add, suc_add_one) refl
    ]

-- the first line is what stands before the first newline
pub lines_first : (bs : List ℕ) → place bs < length bs → lines_of bs ≡ without_return (take (place bs) bs)
    ∷ lines_of (drop (place bs + 1) bs)
lines_first [] found = absurd (omega arith)
lines_first (b ∷ []) found =
    elim (eqb_tells b 10) [
      | inl t ↦ rw t.0 refl
      | inr f ↦ let h = rw f.0 at found in absurd (omega (arith, h))
    ]
lines_first (b ∷ c ∷ cs) found =
    elim (eqb_tells b 10) [
      | inl t ↦ rw t.0 refl
      | inr f ↦
          let h = rw f.0 at found in
          rw (f.0, one_add, suc_add_one) (before_line b c cs (lines_first (c ∷ cs) (omega (arith, h))))
    ]

-- the newline that `position` finds
pub cut_at : (bs : List ℕ) (n : ℕ) → Some n ≡ position is_newline bs → lines_of bs ≡ without_return (take n bs)
    ∷ lines_of (drop (n + 1) bs)
cut_at bs n found = let at = position_some is_newline bs n found in rw at.0 (lines_first bs at.1)

pub cut_nowhere : (bs : List ℕ) → 0 < length bs → None ≡ position is_newline bs → lines_of bs ≡ bs ∷ []
cut_nowhere [] some none = absurd (omega arith)
cut_nowhere (b ∷ bs) some none = lines_none b bs (position_none is_newline (b ∷ bs) none)

less_one : (n : ℕ) → suc n - 1 ≡ n
less_one n = omega arith

-- a line whose last byte is no carriage return
pub without_return_keeps : (bs : List ℕ) → pointwise nat_eq (drop (length bs - 1) bs) (13 ∷ []) ≡ false
    → without_return bs ≡ bs
without_return_keeps [] h = refl
without_return_keeps (b ∷ []) h =
    elim (eqb_tells b 13) [ inl t ↦ let g = rw t.0 at h in cc | inr f ↦ rw f.0 refl ]
without_return_keeps (b ∷ c ∷ cs) h = ap (λ ds. b ∷ ds) (without_return_keeps (c ∷ cs) (rw less_one (rw less_one at h)))

-- a line whose last byte is one
pub without_return_drops : (bs : List ℕ) → pointwise nat_eq (drop (length bs - 1) bs) (13 ∷ []) ≡ true
    → without_return bs ≡ take (length bs - 1) bs
without_return_drops [] h = refl
without_return_drops (b ∷ []) h =
    elim (eqb_tells b 13) [ inl t ↦ rw t.0 refl | inr f ↦ let g = rw f.0 at h in cc ]
without_return_drops (b ∷ c ∷ cs) h =
    let e = without_return_drops (c ∷ cs) (rw less_one (rw less_one at h))
    in rw less_one (ap (λ ds. b ∷ ds) (rw less_one at e))
