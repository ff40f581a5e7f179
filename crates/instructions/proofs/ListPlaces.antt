-- Where the first element that passes a test stands in a list.
use Rattle.std.proofs.Common.{◌≡◌, ℕ, zero, suc, ◌+◌, ◌<◌, List, [], ◌∷◌, ◌++◌, Bool, true, false, ◌||◌, ◌&&◌, not}
use Rattle.std.proofs.Common.{cond, filter, flat_map, length, map, reverse, slice_get, nat_lt, Some, None, refl, sym}
use Rattle.std.proofs.Common.{ap, subst, arith, ◌∙◌}
use Rattle.std.specs.List.{list_any, position, position_or_len}
use Rattle.std.specs.Option.{option_map}
use Rattle.std.proofs.lemmas.Bool.{ltb-true}
use Rattle.std.proofs.lemmas.List.{reverse-append}
use Rattle.resolve.proofs.NumberLemmas.{position-cons}

-- ---- what holds of each element

module _ {A : Type 0} (P : A → Type 0) where
  abbrev pub Each : List A → Type 0
  Each [] = Unit {0}
  Each (x ∷ xs) = P x × Each xs

  pub each-append : (xs ys : List A) → Each xs → Each ys → Each (xs ++ ys)
  each-append [] ys h k = k
  each-append (x ∷ xs) ys h k = (h.0, each-append xs ys h.1 k)

  pub each-reverse : (xs : List A) → Each xs → Each (reverse xs)
  each-reverse [] h = tt
  each-reverse (x ∷ xs) h =
      subst Each (sym (reverse-append (x ∷ []) xs)) (each-append (reverse xs) (x ∷ []) (each-reverse xs h.1) (h.0, tt))

  pub each-at : (xs : List A) (n : ℕ) (x : A) → Each xs → slice_get xs n ≡ Some x → P x
  each-at [] n x h e = cc
  each-at (y ∷ ys) zero x h e = let same : y ≡ x = cc in subst P same h.0
  each-at (y ∷ ys) (suc n) x h e = each-at ys n x h.1 e

-- ---- whether any passes

pub any-append : {A : Type 0} (p : A → Bool) (xs ys : List A) → list_any p (xs ++ ys) ≡ (list_any p xs || list_any p ys)
any-append p [] ys = refl
any-append p (x ∷ xs) ys = ap (λ b. p x || b) (any-append p xs ys) ∙ by (p x) (list_any p xs) (list_any p ys) where
  by : (a b c : Bool) → (a || (b || c)) ≡ ((a || b) || c)
  by true b c = refl
  by false b c = refl

pub any-flat : {A B : Type 0} (p : B → Bool) (f : A → List B) (xs : List A)
    → list_any p (flat_map f xs) ≡ list_any (λ x. list_any p (f x)) xs
any-flat p f [] = refl
any-flat p f (x ∷ xs) = any-append p (f x) (flat_map f xs) ∙ ap (λ b. list_any p (f x) || b) (any-flat p f xs)

pub any-reverse : {A : Type 0} (p : A → Bool) (xs : List A) → list_any p (reverse xs) ≡ list_any p xs
any-reverse p [] = refl
any-reverse p (x ∷ xs) =
    ap (list_any p) (reverse-append (x ∷ []) xs) ∙ any-append p (reverse xs) (x ∷ [])
    ∙ ap (λ b. b || (p x || false)) (any-reverse p xs) ∙ by (list_any p xs) (p x)
  where
    by : (a b : Bool) → (a || (b || false)) ≡ (b || a)
    by true true = refl
    by true false = refl
    by false true = refl
    by false false = refl

-- of those that pass one test, as something else
pub any-kept : {A B : Type 0} (p : B → Bool) (f : A → B) (q : A → Bool) (xs : List A)
    → list_any p (map f (filter q xs)) ≡ list_any (λ x. q x && p (f x)) xs
any-kept p f q [] = refl
any-kept p f q (x ∷ xs) = by (q x) (any-kept p f q xs) where
  by : (b : Bool) → list_any p (map f (filter q xs)) ≡ list_any (λ y. q y && p (f y)) xs
      → list_any p (map f (cond b (x ∷ filter q xs) (filter q xs))) ≡
      ((b && p (f x)) || list_any (λ y. q y && p (f y)) xs)
  by true e = ap (λ c. p (f x) || c) e
  by false e = e

-- ---- the first that passes

-- it stands at this place
pub record IsFirst {A : Type 0} (p : A → Bool) (xs : List A) (n : ℕ) : Type 0 where
  pub item : A
  pub there : slice_get xs n ≡ Some item
  pub passes : p item ≡ true
  pub place_is : position_or_len p xs ≡ n

-- a place of the list at which the first one would stand
pub first_within : {A : Type 0} (p : A → Bool) (xs : List A) (n : ℕ) → position_or_len p xs ≡ n → n < length xs
    → IsFirst p xs n
first_within p [] n e inside = absurd (omega arith)
first_within p (x ∷ xs) n e inside = by (p x) refl n e inside (λ k e inside. first_within p xs k e inside) where
  place : Bool → ℕ
  place b = cond (not b) (1 + position_or_len p xs) 0

  by : (b : Bool) → p x ≡ b → (n : ℕ) → position_or_len p (x ∷ xs) ≡ n → n < suc (length xs)
      → ((k : ℕ) → position_or_len p xs ≡ k → k < length xs → IsFirst p xs k) → IsFirst p (x ∷ xs) n
  by true h n e inside rest =
      let zero_is : 0 ≡ n = sym (ap place h) ∙ e in
      record { item = x; there = ap (slice_get (x ∷ xs)) (sym zero_is); passes = h; place_is = e }
  by false h zero e inside rest =
      let one : 1 + position_or_len p xs ≡ 0 = sym (ap place h) ∙ e in absurd (omega (arith, one))
  by false h (suc k) e inside rest =
      let one : 1 + position_or_len p xs ≡ suc k = sym (ap place h) ∙ e in
      let further = rest k (omega (arith, one)) (omega (arith, inside)) in
      record { item = further.item; there = further.there; passes = further.passes; place_is = e }

pub first_at : {A : Type 0} (p : A → Bool) (xs : List A) (n : ℕ) → position p xs ≡ Some n → IsFirst p xs n
first_at p xs n e = by (nat_lt (position_or_len p xs) (length xs)) refl e where
  by : (b : Bool) → nat_lt (position_or_len p xs) (length xs) ≡ b → cond b (Some (position_or_len p xs)) None ≡ Some n
      → IsFirst p xs n
  by true h k =
      let same : position_or_len p xs ≡ n = cc in
      let inside : position_or_len p xs < length xs = ltb-true (position_or_len p xs) (length xs) h in
      first_within p xs n same (subst (λ (m : ℕ). m < length xs) same inside)
  by false h k = cc

pub record HasFirst {A : Type 0} (p : A → Bool) (xs : List A) : Type 0 where
  pub place : ℕ
  pub is : position p xs ≡ Some place

-- where one passes there is a first
pub first_of : {A : Type 0} (p : A → Bool) (xs : List A) → list_any p xs ≡ true → HasFirst p xs
first_of p [] e = cc
first_of p (x ∷ xs) e = by (p x) refl e (λ h. first_of p xs h) where
  by : (b : Bool) → p x ≡ b → (b || list_any p xs) ≡ true → (list_any p xs ≡ true → HasFirst p xs) → HasFirst p (x ∷ xs)
  by true h k rest =
      record { place = 0; is = position-cons p x xs ∙ ap (λ b. cond b (Some 0) (option_map suc (position p xs))) h }
  by false h k rest =
      let later = rest k in
      record {
        place = suc later.place;
        is =
            position-cons p x xs ∙ ap (λ b. cond b (Some 0) (option_map suc (position p xs))) h
            ∙ ap (option_map suc) later.is;
      }

-- where none passes there is no first
pub first_nowhere : {A : Type 0} (p : A → Bool) (xs : List A) → Each (λ x. p x ≡ false) xs → position p xs ≡ None
first_nowhere p [] h = refl
first_nowhere p (x ∷ xs) h =
    position-cons p x xs ∙ ap (λ b. cond b (Some 0) (option_map suc (position p xs))) h.0
    ∙ ap (option_map suc) (first_nowhere p xs h.1)

-- ---- what stands in the first part of a list

pub get-first_part : {A : Type 0} (xs ys : List A) (n : ℕ) (x : A) → slice_get xs n ≡ Some x
    → slice_get (xs ++ ys) n ≡ Some x
get-first_part [] ys n x e = cc
get-first_part (z ∷ zs) ys zero x e = e
get-first_part (z ∷ zs) ys (suc n) x e = get-first_part zs ys n x e

-- ---- what stands at a place of a list

pub item-at : {A : Type 0} (xs : List A) (n : ℕ) → n < length xs → (x : A) × (slice_get xs n ≡ Some x)
item-at [] n inside = absurd (omega (arith, inside))
item-at (x ∷ xs) zero inside = (x, refl)
item-at (x ∷ xs) (suc n) inside = item-at xs n (omega (arith, inside))
