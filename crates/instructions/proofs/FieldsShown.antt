-- The words of an object under their keys, one after another.
use Rattle.std.proofs.Common.{◌≡◌, ℕ, zero, suc, ◌+◌, ◌<◌, ◌≤◌, List, [], ◌∷◌, ◌++◌, drop, get_or, length, map, refl}
use Rattle.std.proofs.Common.{sym, ◌∙◌, ap, arith}
use Rattle.std.proofs.lemmas.List.{append_assoc}
use Rattle.model.specs.declared.listings.Field.{Field}
use Rattle.model.specs.declared.values.Value.{Value}
use Rattle.model.specs.Classes.Search.{Declared}
use Rattle.model.specs.Words.{unwritten}
use Rattle.model.specs.Worlds.{FieldValue}
use Rattle.instructions.specs.Shown.{keyed}

-- the word at a place under the key there
abbrev pub word_as : Declared Field → Value → FieldValue
word_as field word = record (unwritten field) { value = word }

at_place : (fields : List (Declared Field)) (words : List Value) (n : ℕ) (field : Declared Field) (word : Value)
    → n < length words → length words ≤ length fields
    → keyed (drop n (map unwritten fields)) (drop n words)
    ≡ word_as (get_or fields n field) (get_or words n word) ∷ keyed (drop (suc n) (map unwritten fields))
    (drop (suc n) words)
at_place [] [] n field word below few = absurd (omega (arith, below))
at_place (f ∷ fields) [] n field word below few = absurd (omega (arith, below))
at_place [] (w ∷ words) n field word below few = absurd (omega (arith, few))
at_place (f ∷ fields) (w ∷ words) zero field word below few = refl
at_place (f ∷ fields) (w ∷ words) (suc n) field word below few =
    at_place fields words n field word (omega (arith, below)) (omega (arith, few))

-- one more is shown
pub next_shown : (F : FieldValue → FieldValue) (fields : List (Declared Field)) (words : List Value) (n : ℕ)
    (field : Declared Field) (word : Value) (views after : List FieldValue) (view : FieldValue)
    → n < length words → length words ≤ length fields
    → field ≡ get_or fields n field → view ≡ F (word_as field (get_or words n word)) → after ≡ views ++ view ∷ []
    → after ++ map F (keyed (drop (n + 1) (map unwritten fields)) (drop (n + 1) words))
    ≡ views ++ map F (keyed (drop n (map unwritten fields)) (drop n words))
next_shown F fields words n field word views after view below few is shown more =
    let next : n + 1 ≡ suc n = omega arith in
    let following = map F (keyed (drop (suc n) (map unwritten fields)) (drop (suc n) words)) in
    rw (more, next)
    (append_assoc views (view ∷ []) following
    ∙ ap (λ (v : FieldValue). views ++ v ∷ following) (shown
    ∙ ap (λ (f : Declared Field). F (word_as f (get_or words n word))) is)
    ∙ ap (λ fs. views ++ map F fs) (sym (at_place fields words n field word below few)))
