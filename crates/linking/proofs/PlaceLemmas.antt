-- The places of items in lists.
use Rattle.std.proofs.Common.{◌≡◌, ℕ, suc, ◌+◌, ◌-◌, ◌<◌, ◌≤◌, List, [], ◌∷◌, length, drop, get_or, map, position, Bool}
use Rattle.std.proofs.Common.{true, false, cond, not, nat_lt, Some, None, refl, arith, ap, sym, ◌∙◌}
use Rattle.std.specs.List.{position_from, position_or_len}
use Rattle.std.specs.Option.{option_map, unwrap_or}
use Rattle.std.proofs.Math.Seq.{drop-cons}
use Rattle.std.proofs.lemmas.Iterator.Adapters.{position_from-zero}
use Rattle.std.proofs.lemmas.List.Sums.{prefix_len-le-length}
use borrow.Author.Tests.{ltb-false}

-- the key in front decides where it is the one that is sought
pub place-front : {K : Type 0} (test : K → Bool) (keys : List K) (n : ℕ) (key : K) → key ≡ get_or keys (n - 1) key
    → 0 < n → n - 1 < length keys
    → cond (test key) (Some (n - 1)) (position_from test n (drop n keys))
    ≡ position_from test (n - 1) (drop (n - 1) keys)
place-front {K = K} test keys n key is some inside =
    let next : suc (n - 1) ≡ n = omega arith in
    let after : n - 1 + 1 ≡ n = omega arith in
    let split : drop (n - 1) keys ≡ key ∷ drop n keys =
    drop-cons keys (n - 1) key inside ∙ ap (λ (x : K). x ∷ drop (suc (n - 1)) keys) (sym is)
    ∙ ap (λ (m : ℕ). key ∷ drop m keys) next in
    ap (λ (m : ℕ). cond (test key) (Some (n - 1)) (position_from test m (drop n keys))) (sym after)
    ∙ sym (ap (λ (xs : List K). position_from test (n - 1) xs) split)

pub place-first : {K : Type 0} (test : K → Bool) (keys : List K) → position_from test 0 keys ≡ position test keys
place-first test keys = sym (position_from-zero test keys)

-- the place of an item is found by what is asked of it
pub position-map : {A B : Type 0} (f : A → B) (test : B → Bool) (xs : List A) → position (λ x. test (f x)) xs
    ≡ position test (map f xs)
position-map {A = A} {B = B} f test xs = by (len xs) (same xs) where
  len : (xs : List A) → length xs ≡ length (map f xs)
  len [] = refl
  len (x ∷ xs) = ap (λ n. suc n) (len xs)

  same : (xs : List A) → position_or_len (λ x. test (f x)) xs ≡ position_or_len test (map f xs)
  same [] = refl
  same (x ∷ xs) = ap (λ n. cond (not (test (f x))) (1 + n) 0) (same xs)

  by : length xs ≡ length (map f xs) → position_or_len (λ x. test (f x)) xs ≡ position_or_len test (map f xs)
      → position (λ x. test (f x)) xs ≡ position test (map f xs)
  by l s = ap (λ (n : ℕ). cond (nat_lt n (length xs)) (Some n) None) s
      ∙ ap (λ (m : ℕ). cond (nat_lt (position_or_len test (map f xs)) m) (Some (position_or_len test (map f xs))) None)
      l

-- the place that is none is how many there are
pub place-or : {A : Type 0} (test : A → Bool) (xs : List A) → unwrap_or (position test xs) (length xs)
    ≡ position_or_len test xs
place-or test xs = by (nat_lt (position_or_len test xs) (length xs)) refl where
  most : position_or_len test xs ≤ length xs
  most = prefix_len-le-length (λ x. not (test x)) xs

  by : (b : Bool) → nat_lt (position_or_len test xs) (length xs) ≡ b
      → unwrap_or (cond b (Some (position_or_len test xs)) None) (length xs) ≡ position_or_len test xs
  by true e = refl
  by false e = let past : length xs ≤ position_or_len test xs = ltb-false (position_or_len test xs) (length xs) e
      in omega (arith, most, past)

-- ---- the place in a list, item by item

pub position-later : {A : Type 0} (test : A → Bool) (n : ℕ) (xs : List A) → position_from test (n + 1) xs
    ≡ option_map (λ (k : ℕ). k + 1) (position_from test n xs)
position-later test n [] = refl
position-later test n (x ∷ xs) = by (test x) (position-later test (n + 1) xs) where
  by : (b : Bool) → position_from test (n + 1 + 1) xs ≡ option_map (λ (k : ℕ). k + 1) (position_from test (n + 1) xs)
      → cond b (Some (n + 1)) (position_from test (n + 1 + 1) xs)
      ≡ option_map (λ (k : ℕ). k + 1) (cond b (Some n) (position_from test (n + 1) xs))
  by true rest = refl
  by false rest = rest

pub position-cons : {A : Type 0} (test : A → Bool) (x : A) (xs : List A)
    → position test (x ∷ xs) ≡ cond (test x) (Some 0) (option_map (λ (k : ℕ). k + 1) (position test xs))
position-cons test x xs =
    sym (place-first test (x ∷ xs))
    ∙ ap (cond (test x) (Some 0)) (position-later test 0 xs ∙ ap (option_map (λ (k : ℕ). k + 1)) (place-first test xs))
