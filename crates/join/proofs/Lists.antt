use Rattle.std.proofs.Common.{◌≡◌, ℕ, zero, suc, ◌<◌, List, [], ◌∷◌, ◌++◌, length, map, set, reverse, slice_get, Some}
use Rattle.std.proofs.Common.{refl, sym, ◌∙◌, ap, arith}
use Rattle.std.proofs.lemmas.List.{map-append, reverse-append}

-- lists

pub reverse-map : {A B : Type 0} (f : A → B) (xs : List A) → reverse (map f xs) ≡ map f (reverse xs)
reverse-map f [] = refl
reverse-map f (x ∷ xs) =
    reverse-append (f x ∷ []) (map f xs) ∙ ap (λ ys. ys ++ f x ∷ []) (reverse-map f xs)
    ∙ sym (map-append f (reverse xs) (x ∷ [])) ∙ ap (map f) (sym (reverse-append (x ∷ []) xs))

-- one function after another
pub map-after : {A B C : Type 0} (f : A → B) (g : B → C) (k : A → C) → ((x : A) → g (f x) ≡ k x) → (xs : List A)
    → map g (map f xs) ≡ map k xs
map-after f g k e [] = refl
map-after f g k e (x ∷ xs) = rw (e x, map-after f g k e xs) refl

-- a function that changes nothing
pub map-same : {A : Type 0} (f : A → A) → ((x : A) → f x ≡ x) → (xs : List A) → map f xs ≡ xs
map-same f e [] = refl
map-same f e (x ∷ xs) = ap (λ y. y ∷ map f xs) (e x) ∙ ap (λ ys. x ∷ ys) (map-same f e xs)

-- ---- what stands at a place, after one more and after a change

pub get-older : {A : Type 0} (xs : List A) (x : A) (k : ℕ) → k < length xs → slice_get (xs ++ x ∷ []) k ≡ slice_get xs k
get-older [] x k l = absurd (omega arith)
get-older (y ∷ ys) x zero l = refl
get-older (y ∷ ys) x (suc k) l = get-older ys x k (omega arith)

pub get-newest : {A : Type 0} (xs : List A) (x : A) → slice_get (xs ++ x ∷ []) (length xs) ≡ Some x
get-newest [] x = refl
get-newest (y ∷ ys) x = get-newest ys x

pub get-within : {A : Type 0} (xs : List A) (k : ℕ) → k < length xs → (x : A) × (slice_get xs k ≡ Some x)
get-within [] k l = absurd (omega arith)
get-within (x ∷ xs) zero l = (x, refl)
get-within (x ∷ xs) (suc k) l = get-within xs k (omega arith)

pub get-set_same : {A : Type 0} (xs : List A) (k : ℕ) (x y : A) → slice_get xs k ≡ Some y → slice_get (set xs k x) k
    ≡ Some x
get-set_same [] k x y e = absurd (cc)
get-set_same (z ∷ zs) zero x y e = refl
get-set_same (z ∷ zs) (suc k) x y e = get-set_same zs k x y e

pub get-set_other : {A : Type 0} (xs : List A) (j k : ℕ) (x : A) → (j ≡ k → ⊥) → slice_get (set xs k x) j
    ≡ slice_get xs j
get-set_other [] j k x n = refl
get-set_other (z ∷ zs) zero zero x n = absurd (n refl)
get-set_other (z ∷ zs) zero (suc k) x n = refl
get-set_other (z ∷ zs) (suc j) zero x n = refl
get-set_other (z ∷ zs) (suc j) (suc k) x n = get-set_other zs j k x (λ e. n (ap suc e))
