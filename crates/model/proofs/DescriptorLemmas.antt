-- Types in a row, one after the other.
use Rattle.std.proofs.Common.{◌≡◌, ℕ, zero, suc, ◌<◌, ◌≤◌, ◌==◌, Bool, true, false, List, [], ◌∷◌, length, take, drop}
use Rattle.std.proofs.Common.{min, refl, sym, ap, ap₂, ◌∙◌, arith}
use Rattle.std.proofs.lemmas.List.{length-drop, take_min, drop_min}
use Rattle.model.specs.Signatures.{type_length, types_within, types_in}

-- a type has a byte at least
begins : (b : ℕ) (bs : List ℕ) (array class : Bool) → (b == 91) ≡ array → (b == 76) ≡ class → 0 < type_length (b ∷ bs)
begins b bs true class e k = rw e (omega arith)
begins b bs false true e k = rw (e, k) (omega arith)
begins b bs false false e k = rw (e, k) (omega arith)

pub has_byte : (b : ℕ) (bs : List ℕ) → 0 < type_length (b ∷ bs)
has_byte b bs = begins b bs (b == 91) (b == 76) refl refl

pub shorter : (n k : ℕ) (row : List ℕ) → length row ≤ suc n → 0 < k → length (drop k row) ≤ n
shorter n k row h lt = omega (arith, length-drop k row)

-- how many types are asked for doesn't matter where they are as many as the bytes
as_many : (n m : ℕ) (row : List ℕ) → length row ≤ n → length row ≤ m → types_within n row ≡ types_within m row
as_many zero zero row h k = refl
as_many zero (suc m) [] h k = refl
as_many (suc n) zero [] h k = refl
as_many (suc n) (suc m) [] h k = refl
as_many zero m (b ∷ bs) h k = absurd (omega (arith, h))
as_many n zero (b ∷ bs) h k = absurd (omega (arith, k))
as_many (suc n) (suc m) (b ∷ bs) h k =
    let of = type_length (b ∷ bs) in
    let lt = has_byte b bs in
    ap (λ (types : List (List ℕ)). take of (b ∷ bs) ∷ types)
    (as_many n m (drop of (b ∷ bs)) (shorter n of (b ∷ bs) h lt) (shorter m of (b ∷ bs) k lt))

pub first_type : (b : ℕ) (bs : List ℕ) → types_in (b ∷ bs) ≡ take (type_length (b ∷ bs)) (b ∷ bs)
    ∷ types_in (drop (type_length (b ∷ bs)) (b ∷ bs))
first_type b bs =
    let of = type_length (b ∷ bs) in
    let few = shorter (length bs) of (b ∷ bs) (omega arith) (has_byte b bs) in
    ap (λ (types : List (List ℕ)). take of (b ∷ bs) ∷ types) (as_many (length bs) (length (drop of (b ∷ bs)))
    (drop of (b ∷ bs)) few (omega arith))

-- a row cut after its first type, which may not end
pub row_cut : (row first others : List ℕ) → 0 < length row → first ≡ take (min (type_length row) (length row)) row
    → others ≡ drop (min (type_length row) (length row)) row
    → types_in row ≡ first ∷ types_in others
row_cut [] first others some f o = absurd (omega (arith, some))
row_cut (b ∷ bs) first others some f o =
    let of = type_length (b ∷ bs) in
    first_type b bs ∙ ap₂ (λ (x : List ℕ) (y : List ℕ). x ∷ types_in y) (sym (f ∙ take_min of (b ∷ bs)))
    (sym (o ∙ drop_min of (b ∷ bs)))
