-- How the words of a line begin, by the places of its first byte that is no blank and of the first blank after it.
use Rattle.std.proofs.Common.{◌≡◌, ℕ, suc, ◌<◌, ◌≤◌, Bool, true, false, not, List, [], ◌∷◌, length, take, drop, refl}
use Rattle.std.proofs.Common.{sym, ◌∙◌, ap, arith, inl, inr, Some, None}
use Rattle.std.specs.List.{position, position_or_len}
use Rattle.model.specs.Texts.Words.{is_blank, ends_word, word_byte, runs_of}
use Rattle.jasmin_words.proofs.Places.{position_some, position_none, bool_tells, one_add}

abbrev is_ink : ℕ → Bool
is_ink b = not (is_blank b)

ink_later : (b : ℕ) (bs : List ℕ) → is_blank b ≡ true → position_or_len is_ink (b ∷ bs)
    ≡ suc (position_or_len is_ink bs)
ink_later b bs h = rw (h, one_add) refl

ink_here : (b : ℕ) (bs : List ℕ) → is_blank b ≡ false → position_or_len is_ink (b ∷ bs) ≡ 0
ink_here b bs h = rw h refl

blank_later : (b : ℕ) (bs : List ℕ) → is_blank b ≡ false → position_or_len is_blank (b ∷ bs)
    ≡ suc (position_or_len is_blank bs)
blank_later b bs h = rw (h, one_add) refl

blank_here : (b : ℕ) (bs : List ℕ) → is_blank b ≡ true → position_or_len is_blank (b ∷ bs) ≡ 0
blank_here b bs h = rw h refl

skipped : (b : ℕ) (ends : Bool) (ws : List (List ℕ)) → is_blank b ≡ true → word_byte b ends ws ≡ ws
skipped b ends ws h = rw h refl

word_ends : (b : ℕ) (ends : Bool) (ws : List (List ℕ)) → is_blank b ≡ false → ends ≡ true → word_byte b ends ws
    ≡ (b ∷ []) ∷ ws
word_ends b ends ws h e = rw (h, e) refl

word_goes : (b : ℕ) (ends : Bool) (w : List ℕ) (ws : List (List ℕ)) → is_blank b ≡ false → ends ≡ false
    → word_byte b ends (w ∷ ws) ≡ (b ∷ w) ∷ ws
word_goes b ends w ws h e = rw (h, e) refl

-- blanks before a word
runs_from : (bs : List ℕ) → runs_of bs ≡ runs_of (drop (position_or_len is_ink bs) bs)
runs_from [] = refl
runs_from (b ∷ bs) =
    elim (bool_tells (is_blank b)) [
      | inl t ↦ skipped b (ends_word bs) (runs_of bs) t ∙ runs_from bs
          ∙ ap (λ n. runs_of (drop n (b ∷ bs))) (sym (ink_later b bs t))
      | inr f ↦ ap (λ n. runs_of (drop n (b ∷ bs))) (sym (ink_here b bs f))
    ]

-- a word begins there, if anything is left
begins_there : (bs : List ℕ) → position_or_len is_ink bs < length bs → ends_word (drop (position_or_len is_ink bs) bs)
    ≡ false
begins_there [] some = absurd (omega arith)
begins_there (b ∷ bs) some =
    elim (bool_tells (is_blank b)) [
      | inl t ↦ rw (ink_later b bs t) (begins_there bs (omega (arith, ink_later b bs t)))
      | inr f ↦ ap (λ n. ends_word (drop n (b ∷ bs))) (ink_here b bs f) ∙ f
    ]

pub word_at : (bs : List ℕ) (n : ℕ) → Some n ≡ position is_ink bs → (runs_of bs ≡ runs_of (drop n bs))
    × (ends_word (drop n bs) ≡ false)
word_at bs n found =
    let at = position_some is_ink bs n found in (
      runs_from bs ∙ ap (λ k. runs_of (drop k bs)) (sym at.0),
      ap (λ k. ends_word (drop k bs)) at.0
          ∙ begins_there bs at.1,
    )

-- a line of blanks
runs_none : (bs : List ℕ) → length bs ≤ position_or_len is_ink bs → runs_of bs ≡ []
runs_none [] none = refl
runs_none (b ∷ bs) none =
    elim (bool_tells (is_blank b)) [
      | inl t ↦ skipped b (ends_word bs) (runs_of bs) t ∙ runs_none bs (omega (arith, ink_later b bs t))
      | inr f ↦ absurd (omega (arith, ink_here b bs f))
    ]

pub word_nowhere : (bs : List ℕ) → None ≡ position is_ink bs → runs_of bs ≡ []
word_nowhere bs none = runs_none bs (position_none is_ink bs none)

-- the first word ends at the first blank, or with the line
runs_cut : (bs : List ℕ) → ends_word bs ≡ false → runs_of bs ≡ take (position_or_len is_blank bs) bs
    ∷ runs_of (drop (position_or_len is_blank bs) bs)
runs_cut [] word = cc
runs_cut (b ∷ []) word = rw word refl
runs_cut (b ∷ c ∷ cs) word =
    let cut : ℕ → List (List ℕ) = λ n. take n (b ∷ c ∷ cs) ∷ runs_of (drop n (b ∷ c ∷ cs)) in
    elim (bool_tells (is_blank c)) [
      | inl t ↦ word_ends b (is_blank c) (runs_of (c ∷ cs)) word t
          ∙ ap cut (sym (blank_later b (c ∷ cs) word ∙ ap suc (blank_here c cs t)))
      | inr f ↦ ap (word_byte b (is_blank c)) (runs_cut (c ∷ cs) f) ∙ word_goes b (is_blank c) _ _ word f
          ∙ ap cut (sym (blank_later b (c ∷ cs) word))
    ]

pub cut_at_blank : (bs : List ℕ) (n : ℕ) → ends_word bs ≡ false → Some n ≡ position is_blank bs → runs_of bs
    ≡ take n bs ∷ runs_of (drop n bs)
cut_at_blank bs n word found =
    let at = position_some is_blank bs n found in runs_cut bs word ∙ ap (λ k. take k bs ∷ runs_of (drop k bs))
    (sym at.0)

one_word : (bs : List ℕ) → ends_word bs ≡ false → length bs ≤ position_or_len is_blank bs → runs_of bs ≡ bs ∷ []
one_word [] word none = cc
one_word (b ∷ []) word none = rw word refl
one_word (b ∷ c ∷ cs) word none =
    elim (bool_tells (is_blank c)) [
      | inl t ↦ absurd (omega (arith, blank_later b (c ∷ cs) word, blank_here c cs t))
      | inr f ↦ ap (word_byte b (is_blank c)) (one_word (c ∷ cs) f (omega (arith, blank_later b (c ∷ cs) word)))
          ∙ word_goes b (is_blank c) _ _ word f
    ]

pub cut_at_end : (bs : List ℕ) → ends_word bs ≡ false → None ≡ position is_blank bs → runs_of bs ≡ bs ∷ []
cut_at_end bs word none = one_word bs word (position_none is_blank bs none)
