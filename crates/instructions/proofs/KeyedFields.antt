-- Fields with values under their keys: where a field stands, and what is read and written at a place.
use Rattle.std.proofs.Common.{◌≡◌, ℕ, zero, suc, List, [], ◌∷◌, cond, length, slice_get, Some, refl, ap, arith, ◌∙◌}
use Rattle.std.proofs.Common.{sym}
use Rattle.std.specs.Prelude.{slice_set}
use Rattle.std.specs.Option.{option_map}
use Rattle.model.specs.declared.listings.Field.{Field}
use Rattle.model.specs.declared.values.Value.{Value}
use Rattle.model.specs.Classes.Search.{Declared}
use Rattle.model.specs.Words.{element_or_null, field_index, is_field, value_at, with_value_at}
use Rattle.model.specs.Worlds.{FieldValue}
use Rattle.resolve.proofs.NumberLemmas.{position-cons}
use Rattle.instructions.specs.Shown.{keyed}

pub value_at-keyed : (keys : List FieldValue) (values : List Value) (n : ℕ)
    → value_at (keyed keys values) n ≡ element_or_null (slice_get values n)
value_at-keyed keys [] n = refl
value_at-keyed [] (v ∷ vs) zero = refl
value_at-keyed [] (v ∷ vs) (suc n) = value_at-keyed [] vs n
value_at-keyed (k ∷ keys) (v ∷ vs) zero = refl
value_at-keyed (k ∷ keys) (v ∷ vs) (suc n) = value_at-keyed keys vs n

pub with_value_at-keyed : (keys : List FieldValue) (values : List Value) (n : ℕ) (v : Value)
    → with_value_at (keyed keys values) n v ≡ keyed keys (slice_set values n v)
with_value_at-keyed keys [] n v = refl
with_value_at-keyed [] (x ∷ xs) zero v = refl
with_value_at-keyed [] (x ∷ xs) (suc n) v =
    let f : FieldValue = record { class = []; name = []; descriptor = []; value = x } in ap (λ fs. f ∷ fs)
    (with_value_at-keyed [] xs n v)
with_value_at-keyed (k ∷ keys) (x ∷ xs) zero v = refl
with_value_at-keyed (k ∷ keys) (x ∷ xs) (suc n) v =
    ap (λ fs. record k { value = x } ∷ fs) (with_value_at-keyed keys xs n v)

-- where a field stands depends on the keys alone
pub field_index-keyed : (keys : List FieldValue) (values : List Value) (d : Declared Field)
    → length values ≡ length keys
    → field_index (keyed keys values) d ≡ field_index keys d
field_index-keyed [] [] d e = refl
field_index-keyed [] (v ∷ vs) d e = cc
field_index-keyed (k ∷ keys) [] d e = cc
field_index-keyed (k ∷ keys) (v ∷ vs) d e =
    let shorter : length vs ≡ length keys = omega (arith, e) in
    position-cons (is_field d) (record k { value = v }) (keyed keys vs)
    ∙ ap (λ o. cond (is_field d k) (Some 0) (option_map suc o)) (field_index-keyed keys vs d shorter)
    ∙ sym (position-cons (is_field d) k keys)
