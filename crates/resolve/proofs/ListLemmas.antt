-- Tests of lists, and how many pass.
use Rattle.std.proofs.Common.{◌≡◌, ◌⊎◌, inl, inr, ℕ, suc, ◌<◌, ◌≤◌, List, [], ◌∷◌, ◌++◌, Bool, true, false, cond, not}
use Rattle.std.proofs.Common.{◌&&◌, ◌||◌, filter, length, Some, None, refl, sym, ap, arith, ◌∙◌}
use Rattle.std.specs.List.{find, flat_map, list_all, list_any}
use Rattle.model.specs.Classes.Subclass.{HasName}
use Rattle.resolve.proofs.ReachedLemmas.{or-cases}

pub both-true : (a b : Bool) → a ≡ true → b ≡ true → (a && b) ≡ true
both-true true b p q = q
both-true false b p q = p

pub and-left : (a b : Bool) → (a && b) ≡ true → a ≡ true
and-left true b h = refl
and-left false b h = h

pub and-right : (a b : Bool) → (a && b) ≡ true → b ≡ true
and-right true b h = h
and-right false b h = cc

pub and-false : (a b : Bool) → (a && b) ≡ false → (a ≡ false) ⊎ (b ≡ false)
and-false true b h = inr h
and-false false b h = inl refl

-- ---- how many pass

module _ {A : Type 0} (f g : A → Bool) (all : (x : A) → f x ≡ true → g x ≡ true) where
  abbrev count : (A → Bool) → List A → ℕ
  count test xs = length (filter test xs)

  count-le : (xs : List A) → count f xs ≤ count g xs
  count-le [] = omega arith
  count-le (x ∷ xs) = by (f x) (g x) (all x) (count-le xs)
    where
      by : (b c : Bool) → (b ≡ true → c ≡ true) → count f xs ≤ count g xs
          → length (cond b (x ∷ filter f xs) (filter f xs)) ≤ length (cond c (x ∷ filter g xs) (filter g xs))
      by true true more le = omega (arith, le)
      by true false more le = absurd (differ (more refl))
        where
          differ : false ≡ true → ⊥
          differ e = cc
      by false true more le = omega (arith, le)
      by false false more le = le

  -- fewer pass, where one passes the other test alone
  pub count-less : (xs : List A) → list_any (λ x. g x && not (f x)) xs ≡ true
      → length (filter f xs) < length (filter g xs)
  count-less [] h = cc
  count-less (x ∷ xs) h =
      by (f x) (g x) (all x) (count-le xs) (or-cases (g x && not (f x)) (list_any (λ y. g y && not (f y)) xs) h)
      (λ there. count-less xs there)
    where
      differ : false ≡ true → ⊥
      differ e = cc

      by : (b c : Bool) → (b ≡ true → c ≡ true) → count f xs ≤ count g xs
          → ((c && not b) ≡ true) ⊎ (list_any (λ y. g y && not (f y)) xs ≡ true)
          → (list_any (λ y. g y && not (f y)) xs ≡ true → count f xs < count g xs)
          → length (cond b (x ∷ filter f xs) (filter f xs)) < length (cond c (x ∷ filter g xs) (filter g xs))
      by true true more le (inl here) rest = absurd (differ here)
      by true true more le (inr there) rest = let less : count f xs < count g xs = rest there in omega (arith, less)
      by true false more le here rest = absurd (differ (more refl))
      by false true more le here rest = omega (arith, le)
      by false false more le (inl here) rest = absurd (differ here)
      by false false more le (inr there) rest = rest there

pub count-all : {A : Type 0} (f : A → Bool) (xs : List A) → length (filter f xs) ≤ length xs
count-all f [] = omega arith
count-all f (x ∷ xs) = by (f x) (count-all f xs)
  where
    by : (b : Bool) → length (filter f xs) ≤ length xs
        → length (cond b (x ∷ filter f xs) (filter f xs)) ≤ suc (length xs)
    by true le = omega (arith, le)
    by false le = omega (arith, le)

-- ---- what was found

module _ {A : Type 0} where
  one-of : (x c : A) → Some x ≡ Some c → x ≡ c
  one-of x c e = cc

  pub found-passes : (q : A → Bool) (xs : List A) (c : A) → find q xs ≡ Some c → q c ≡ true
  found-passes q [] c e = cc
  found-passes q (x ∷ xs) c e = by (q x) refl e (λ rest. found-passes q xs c rest)
    where
      by : (b : Bool) → q x ≡ b → cond b (Some x) (find q xs) ≡ Some c → (find q xs ≡ Some c → q c ≡ true) → q c ≡ true
      by true passes is rest = ap q (sym (one-of x c is)) ∙ passes
      by false passes is rest = rest is

  pub found-any : (q h : A → Bool) (xs : List A) (c : A) → find q xs ≡ Some c → h c ≡ true → list_any h xs ≡ true
  found-any q h [] c e t = cc
  found-any q h (x ∷ xs) c e t = by (q x) e (λ rest. found-any q h xs c rest t)
    where
      right : (a b : Bool) → b ≡ true → (a || b) ≡ true
      right true b k = refl
      right false b k = k

      left : (a b : Bool) → a ≡ true → (a || b) ≡ true
      left true b k = refl
      left false b k = cc

      by : (b : Bool) → cond b (Some x) (find q xs) ≡ Some c → (find q xs ≡ Some c → list_any h xs ≡ true)
          → (h x || list_any h xs) ≡ true
      by true is rest = left (h x) (list_any h xs) (ap h (one-of x c is) ∙ t)
      by false is rest = right (h x) (list_any h xs) (rest is)

  -- where none passes a test, what another test finds doesn't
  pub none-fails : (q r : A → Bool) (xs : List A) (c : A) → find q xs ≡ None → find r xs ≡ Some c → q c ≡ false
  none-fails q r [] c none e = cc
  none-fails q r (x ∷ xs) c none e = by (q x) (r x) refl none e (λ n f. none-fails q r xs c n f)
    where
      by : (b d : Bool) → q x ≡ b → cond b (Some x) (find q xs) ≡ None → cond d (Some x) (find r xs) ≡ Some c
          → (find q xs ≡ None → find r xs ≡ Some c → q c ≡ false) → q c ≡ false
      by true d fails none found rest = cc
      by false true fails none found rest = ap q (sym (one-of x c found)) ∙ fails
      by false false fails none found rest = rest none found

  -- what is found among those that all pass, passes
  pub all-found : (f q : A → Bool) (xs : List A) (c : A) → list_all f xs ≡ true → find q xs ≡ Some c → f c ≡ true
  all-found f q [] c all e = cc
  all-found f q (x ∷ xs) c all e =
      by (q x) e (λ rest. all-found f q xs c (and-right (f x) (list_all f xs) all) rest)
    where
      by : (b : Bool) → cond b (Some x) (find q xs) ≡ Some c → (find q xs ≡ Some c → f c ≡ true) → f c ≡ true
      by true is rest = ap f (sym (one-of x c is)) ∙ and-left (f x) (list_all f xs) all
      by false is rest = rest is

-- ---- names among names

pub all-of : (f : List ℕ → Bool) (xs : List (List ℕ)) (x : List ℕ) → list_all f xs ≡ true → HasName xs x → f x ≡ true
all-of f [] x all h = absurd h
all-of f (y ∷ ys) x all (inl e) = ap f (sym e) ∙ and-left (f y) (list_all f ys) all
all-of f (y ∷ ys) x all (inr h) = all-of f ys x (and-right (f y) (list_all f ys) all) h

pub not-all : (f : List ℕ → Bool) (xs : List (List ℕ)) → list_all f xs ≡ false → (x : List ℕ) × HasName xs x
    × (f x ≡ false)
not-all f [] h = cc
not-all f (y ∷ ys) h =
    elim (and-false (f y) (list_all f ys) h) [
      | inl here ↦ (y, inl refl, here)
      | inr there ↦ let found : (x : List ℕ) × HasName ys x × (f x ≡ false) = not-all f ys there
          in (found.0, inr found.1, found.2)
    ]

pub same-each : (f g : List ℕ → List (List ℕ)) (names : List (List ℕ)) → ((i : List ℕ) → HasName names i → f i ≡ g i)
    → flat_map f names ≡ flat_map g names
same-each f g [] h = refl
same-each f g (x ∷ xs) h =
    ap (λ l. l ++ flat_map f xs) (h x (inl refl)) ∙ ap (λ l. g x ++ l) (same-each f g xs (λ i k. h i (inr k)))
