-- How the numbers that go with `ldc` are found, one use after the other.
use Rattle.std.proofs.Common.{◌≡◌, ℤ, ◌≤◌, Bool, true, false, not, ◌&&◌, ◌||◌, List, [], ◌∷◌, ◌++◌, filter, length}
use Rattle.std.proofs.Common.{take, refl, sym, ◌∙◌, ap, inl, inr, append_assoc, append-nil}
use Rattle.std.specs.Ordering.{int_eq}
use Rattle.std.proofs.lemmas.List.{take-append-le, take_all}
use Rattle.std.proofs.lemmas.Bool.Decides.{Decides-int_eq}
use Rattle.assembler.proofs.Bools.{bool_tells}
use Rattle.model.specs.Texts.Widths.{is_among, different}
use Rattle.assembler.specs.Numbers.{numbers_with}

-- a filter's first element
kept : (p : ℤ → Bool) (z : ℤ) (zs : List ℤ) → p z ≡ true → filter p (z ∷ zs) ≡ z ∷ filter p zs
kept p z zs h = rw h refl

left_out : (p : ℤ → Bool) (z : ℤ) (zs : List ℤ) → p z ≡ false → filter p (z ∷ zs) ≡ filter p zs
left_out p z zs h = rw h refl

-- a filter of a filter
filter_twice : (p q r : ℤ → Bool) (zs : List ℤ) → ((z : ℤ) → r z ≡ (q z && p z)) → filter p (filter q zs) ≡ filter r zs
filter_twice p q r [] h = refl
filter_twice p q r (z ∷ zs) h =
    elim (bool_tells (q z)) [
      | inl t ↦ elim (bool_tells (p z)) [
        | inl u ↦ ap (filter p) (kept q z zs t) ∙ kept p z (filter q zs) u ∙ ap (λ ys. z ∷ ys) (filter_twice p q r zs h)
            ∙ sym (kept r z zs (h z ∙ rw (t, u) refl))
        | inr g ↦ ap (filter p) (kept q z zs t) ∙ left_out p z (filter q zs) g ∙ filter_twice p q r zs h
            ∙ sym (left_out r z zs (h z ∙ rw (t, g) refl))
      ]
      | inr f ↦ ap (filter p) (left_out q z zs f) ∙ filter_twice p q r zs h ∙ sym (left_out r z zs (h z ∙ rw f refl))
    ]

-- what is not among numbers
pub others : List ℤ → ℤ → Bool
others noted z = not (is_among noted z)

among_push : (noted : List ℤ) (z y : ℤ) → is_among (noted ++ z ∷ []) y ≡ (is_among noted y || int_eq z y)
among_push [] z y = elim (bool_tells (int_eq z y)) [ inl t ↦ rw t refl | inr f ↦ rw f refl ]
among_push (n ∷ noted) z y = elim (bool_tells (int_eq n y)) [
  | inl t ↦ rw t refl
  | inr f ↦ rw (f, among_push noted z y) refl
]

not_or : (a b : Bool) → not (a || b) ≡ (not b && not a)
not_or true true = refl
not_or true false = refl
not_or false true = refl
not_or false false = refl

-- what is among numbers keeps that name at an equal number
among_equal : (noted : List ℤ) (z y : ℤ) → is_among noted z ≡ true → int_eq z y ≡ true → is_among noted y ≡ true
among_equal noted z y h e = ap (is_among noted) (sym ((Decides-int_eq z y).0 e)) ∙ h

among_but : (noted : List ℤ) (z y : ℤ) → is_among noted z ≡ true → others noted y ≡ (not (int_eq z y) && others noted y)
unfolding others
among_but noted z y h =
    elim (bool_tells (int_eq z y)) [
      | inl t ↦ rw (t, among_equal noted z y h t) refl
      | inr f ↦ rw f refl
    ]

-- the numbers that are left where one of them is noted already
pub known_rest : (noted : List ℤ) (z : ℤ) (zs : List ℤ) → is_among noted z ≡ true
    → filter (others noted) (different (z ∷ zs)) ≡ filter (others noted) (different zs)
unfolding others
known_rest noted z zs h =
    left_out (others noted) z (filter (λ y. not (int_eq z y)) (different zs)) (rw h refl)
    ∙ filter_twice (others noted) (λ y. not (int_eq z y)) (others noted) (different zs) (λ y. among_but noted z y h)

-- a number that is noted already
pub noted_known : (noted : List ℤ) (z : ℤ) (zs : List ℤ) → is_among noted z ≡ true → numbers_with noted (z ∷ zs)
    ≡ numbers_with noted zs
unfolding numbers_with others
noted_known noted z zs h =
    ap (λ ys. take 255 (noted ++ ys)) (known_rest noted z zs h)

-- where 255 are noted, no other is
pub noted_full : (noted : List ℤ) (z : ℤ) (zs : List ℤ) → 255 ≤ length noted → numbers_with noted (z ∷ zs)
    ≡ numbers_with noted zs
unfolding numbers_with
noted_full noted z zs h = full noted _ h ∙ sym (full noted _ h)
  where
    full : (xs ys : List ℤ) → 255 ≤ length xs → take 255 (xs ++ ys) ≡ take 255 xs
    full xs ys g = take-append-le 255 xs ys g

-- the numbers that are left after a new one
pub new_rest : (noted : List ℤ) (z : ℤ) (zs : List ℤ) → is_among noted z ≡ false
    → filter (others noted) (different (z ∷ zs)) ≡ z ∷ filter (others (noted ++ z ∷ [])) (different zs)
unfolding others
new_rest noted z zs h =
    kept (others noted) z (filter (λ y. not (int_eq z y)) (different zs)) (rw h refl)
    ∙ ap (λ ys. z ∷ ys) (filter_twice (others noted) (λ y. not (int_eq z y)) (others (noted ++ z ∷ [])) (different zs)
    (λ y. ap not (among_push noted z y) ∙ not_or (is_among noted y) (int_eq z y)))

-- a number that is noted
pub noted_new : (noted : List ℤ) (z : ℤ) (zs : List ℤ) → is_among noted z ≡ false → numbers_with noted (z ∷ zs)
    ≡ numbers_with (noted ++ z ∷ []) zs
unfolding numbers_with others
noted_new noted z zs h =
    ap (take 255) (ap (λ ys. noted ++ ys) (new_rest noted z zs h) ∙ sym (append_assoc noted (z ∷ []) _))

filter_all : (zs : List ℤ) → filter (λ z. true) zs ≡ zs
filter_all [] = refl
filter_all (z ∷ zs) = ap (λ ys. z ∷ ys) (filter_all zs)

-- where none is noted, all are left
pub all_left : (zs : List ℤ) → filter (others []) zs ≡ zs
unfolding others
all_left zs = filter_all zs

pub noted_start : (zs : List ℤ) → numbers_with [] zs ≡ take 255 (different zs)
unfolding numbers_with
noted_start zs = ap (take 255) (filter_all (different zs))

pub noted_end : (noted : List ℤ) → length noted ≤ 255 → numbers_with noted [] ≡ noted
unfolding numbers_with
noted_end noted h = ap (take 255) (append-nil noted) ∙ take_all 255 noted h

pub ruleset notes = (noted_known, noted_full, noted_new)
