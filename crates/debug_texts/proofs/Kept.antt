-- Of a list that grows so many elements are kept.
use Rattle.std.proofs.Common.{◌≡◌, ◌<◌, ◌≤◌, ◌+◌, ℕ, zero, suc, List, [], ◌∷◌, ◌++◌, ◌∙◌, length, set, sym, take, ap, arith, refl}
use Rattle.std.proofs.lemmas.List.{length-append, length-take, take-append-le, take_all, take_more_set}

-- what is kept of what is kept, with more after it, is what is kept of all
pub kept_more : (n : ℕ) (xs ys : List ℕ) → take n (take n xs ++ ys) ≡ take n (xs ++ ys)
kept_more zero xs ys = refl
kept_more (suc n) [] ys = refl
kept_more (suc n) (x ∷ xs) ys = ap (λ zs. x ∷ zs) (kept_more n xs ys)

-- nothing more is kept where there is no room
pub kept_full : (n : ℕ) (xs ys : List ℕ) → length xs ≡ n → take n (xs ++ ys) ≡ xs
kept_full n xs ys e = take-append-le n xs ys (omega (arith, e)) ∙ take_all n xs (omega (arith, e))

-- a byte is put where the kept ones end
pub pushed : (bytes : List ℕ) (n b : ℕ) (now : List ℕ) (m : ℕ) → length bytes ≡ m → n < m → take n bytes ≡ now
    → take (n + 1) (set bytes n b) ≡ take m (now ++ b ∷ [])
pushed bytes n b now m l h e =
    let grown = length-append now (b ∷ []) in
    let taken = length-take n bytes in
    let same = ap length e in
    let few : length (now ++ b ∷ []) ≤ m = omega (arith, grown, taken, same, l, h) in
    take_more_set bytes n b (omega (arith, l, h)) ∙ ap (λ (xs : List ℕ). xs ++ b ∷ []) e
    ∙ sym (take_all m (now ++ b ∷ []) few)

pub unpushed : (bytes : List ℕ) (n b : ℕ) (now : List ℕ) (m : ℕ) → length bytes ≡ m → m ≤ n → n ≤ m
    → take n bytes ≡ now → now ≡ take m (now ++ b ∷ [])
unpushed bytes n b now m l h k e =
    let taken = length-take n bytes in
    let same = ap length e in
    sym (kept_full m now (b ∷ []) (omega (arith, taken, same, l, h, k)))
