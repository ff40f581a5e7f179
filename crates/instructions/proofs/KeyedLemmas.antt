use Rattle.std.proofs.Common.{◌≡◌, ℕ, zero, suc, List, [], ◌∷◌, length, map, set, slice_get, Some, refl, sym, ◌∙◌, ap}
use Rattle.std.specs.Option.{option_map}
use Rattle.std.proofs.lemmas.Option.{slice_get-map}
use Rattle.model.specs.declared.values.Value.{Value}
use Rattle.model.specs.Worlds.{FieldValue}
use Rattle.model.specs.Collector.Places.{ref_of, field_ref}
use Rattle.instructions.specs.Shown.{keyed, nameless}

-- Values under their keys: how many there are, which they are, and that one is written.

pub length-keyed : (keys : List FieldValue) (vs : List Value) → length (keyed keys vs) ≡ length vs
length-keyed [] [] = refl
length-keyed (k ∷ keys) [] = refl
length-keyed [] (v ∷ vs) = ap suc (length-keyed [] vs)
length-keyed (k ∷ keys) (v ∷ vs) = ap suc (length-keyed keys vs)

-- without their keys they are the values
pub values-keyed : (keys : List FieldValue) (vs : List Value) → map (λ (f : FieldValue). f.value) (keyed keys vs) ≡ vs
values-keyed [] [] = refl
values-keyed (k ∷ keys) [] = refl
values-keyed [] (v ∷ vs) = ap (λ ws. v ∷ ws) (values-keyed [] vs)
values-keyed (k ∷ keys) (v ∷ vs) = ap (λ ws. v ∷ ws) (values-keyed keys vs)

-- keys have their own values
pub keyed-own : (keys : List FieldValue) → keyed keys (map (λ (f : FieldValue). f.value) keys) ≡ keys
keyed-own [] = refl
keyed-own (k ∷ keys) = ap (λ fs. k ∷ fs) (keyed-own keys)

-- they lead where the values lead
pub refs-keyed : (keys : List FieldValue) (vs : List Value) → map field_ref (keyed keys vs) ≡ map ref_of vs
refs-keyed [] [] = refl
refs-keyed (k ∷ keys) [] = refl
refs-keyed [] (v ∷ vs) = ap (λ rs. ref_of v ∷ rs) (refs-keyed [] vs)
refs-keyed (k ∷ keys) (v ∷ vs) = ap (λ rs. ref_of v ∷ rs) (refs-keyed keys vs)

-- ---- the value at a place

pub value-keyed : (keys : List FieldValue) (vs : List Value) (n : ℕ)
    → option_map (λ (f : FieldValue). f.value) (slice_get (keyed keys vs) n) ≡ slice_get vs n
value-keyed keys vs n =
    sym (slice_get-map (λ (f : FieldValue). f.value) (keyed keys vs) n)
    ∙ ap (λ ws. slice_get ws n) (values-keyed keys vs)

-- under the key of its place
pub keyed-found : (keys : List FieldValue) (vs : List Value) (n : ℕ) (k : FieldValue) (v : Value)
    → slice_get keys n ≡ Some k → slice_get vs n ≡ Some v → slice_get (keyed keys vs) n ≡ Some (record k { value = v })
keyed-found [] vs n k v key value = absurd (cc)
keyed-found (x ∷ keys) [] n k v key value = absurd (cc)
keyed-found (x ∷ keys) (w ∷ vs) zero k v key value =
    let key_is : x ≡ k = cc in
    let value_is : w ≡ v = cc in
    rw (key_is, value_is) refl
keyed-found (x ∷ keys) (w ∷ vs) (suc n) k v key value = keyed-found keys vs n k v key value

-- ---- another value at a place

pub keyed-set : (keys : List FieldValue) (vs : List Value) (n : ℕ) (f : FieldValue) (v : Value)
    → slice_get (keyed keys vs) n ≡ Some f → keyed keys (set vs n v) ≡ set (keyed keys vs) n (record f { value = v })
keyed-set [] [] n f v found = absurd (cc)
keyed-set (k ∷ keys) [] n f v found = absurd (cc)
keyed-set [] (w ∷ vs) zero f v found =
    let is : record nameless { value = w } ≡ f = cc in
    ap (λ (g : FieldValue). record g { value = v } ∷ keyed [] vs) is
keyed-set (k ∷ keys) (w ∷ vs) zero f v found =
    let is : record k { value = w } ≡ f = cc in
    ap (λ (g : FieldValue). record g { value = v } ∷ keyed keys vs) is
keyed-set [] (w ∷ vs) (suc n) f v found = ap (λ fs. record nameless { value = w } ∷ fs) (keyed-set [] vs n f v found)
keyed-set (k ∷ keys) (w ∷ vs) (suc n) f v found = ap (λ fs. record k { value = w } ∷ fs) (keyed-set keys vs n f v found)
