-- A path that meets a node twice has a shorter one beside it: where each node that a path leaves is of a pool, one that
-- has no more steps than the pool has nodes is enough.
use Rattle.std.proofs.Common.{◌≡◌, ◌⊎◌, inl, inr, ℕ, zero, suc, ◌≤◌, length, List, [], ◌∷◌, ◌++◌, Bool, true, false}
use Rattle.std.proofs.Common.{cond, ◌||◌, refl, sym, ◌∙◌, subst, arith}
use Rattle.std.specs.Bool.{Decides}
use Rattle.std.specs.List.{list_any}

pub or-cases : (a b : Bool) → (a || b) ≡ true → (a ≡ true) ⊎ (b ≡ true)
or-cases true b h = inl refl
or-cases false b h = inr h

pub or-right : (a b : Bool) → b ≡ true → (a || b) ≡ true
or-right true b h = refl
or-right false b h = h

or-first_false : (a b : Bool) → (a || b) ≡ true → a ≡ false → b ≡ true
or-first_false true b h e = cc
or-first_false false b h e = h

-- ---- paths

module _ {A : Type 0} (Leads : A → A → Type 0) where
  -- the nodes after the first one
  abbrev pub IsPath : A → List A → A → Type 0
  IsPath a [] b = a ≡ b
  IsPath a (x ∷ xs) b = Leads a x × IsPath x xs b

  pub path-append : (a m b : A) (xs ys : List A) → IsPath a xs m → IsPath m ys b → IsPath a (xs ++ ys) b
  path-append a m b [] ys p q = subst (λ (x : A). IsPath x ys b) (sym p) q
  path-append a m b (x ∷ xs) ys p q = (p.0, path-append x m b xs ys p.1 q)

-- ---- nodes of a pool

module _ {A : Type 0} (same : A → A → Bool) where
  abbrev pub has : List A → A → Bool
  has pool a = list_any (λ x. same x a) pool

  pub has-append_left : (xs ys : List A) (a : A) → has xs a ≡ true → has (xs ++ ys) a ≡ true
  has-append_left [] ys a h = cc
  has-append_left (x ∷ xs) ys a h =
      elim (or-cases (same x a) (has xs a) h) [
        | inl here ↦ rw here
        | inr there ↦ or-right (same x a) (has (xs ++ ys) a) (has-append_left xs ys a there)
      ]

  pub has-append_right : (xs ys : List A) (a : A) → has ys a ≡ true → has (xs ++ ys) a ≡ true
  has-append_right [] ys a h = h
  has-append_right (x ∷ xs) ys a h = or-right (same x a) (has (xs ++ ys) a) (has-append_right xs ys a h)

  -- each node that the path leaves is of the pool
  abbrev pub Inside : List A → A → List A → Type 0
  Inside pool a [] = Unit {0}
  Inside pool a (x ∷ xs) = (has pool a ≡ true) × Inside pool x xs

  abbrev without : A → List A → List A
  without a [] = []
  without a (x ∷ xs) = cond (same x a) (without a xs) (x ∷ without a xs)

  length-cond_le : (b : Bool) (x : A) (xs ys : List A) → length xs ≤ length ys
      → length (cond b xs (x ∷ xs)) ≤ suc (length ys)
  length-cond_le true x xs ys h = omega arith
  length-cond_le false x xs ys h = omega arith

  length-without_le : (a : A) (xs : List A) → length (without a xs) ≤ length xs
  length-without_le a [] = omega arith
  length-without_le a (x ∷ xs) = length-cond_le (same x a) x (without a xs) xs (length-without_le a xs)

  length-cond_lt : (b : Bool) (x : A) (xs ys : List A) → length xs ≤ length ys
      → (b ≡ false → suc (length xs) ≤ length ys)
      → suc (length (cond b xs (x ∷ xs))) ≤ suc (length ys)
  length-cond_lt true x xs ys h k = omega arith
  length-cond_lt false x xs ys h k = let e : suc (length xs) ≤ length ys = k refl in omega arith

  length-without : (a : A) (xs : List A) → has xs a ≡ true → suc (length (without a xs)) ≤ length xs
  length-without a [] h = cc
  length-without a (x ∷ xs) h =
      length-cond_lt (same x a) x (without a xs) xs (length-without_le a xs)
      (λ other. length-without a xs (or-first_false (same x a) (has xs a) h other))

  has-cond : (b : Bool) (x a : A) (rest : List A) → (b ≡ true → same x a ≡ true → ⊥)
      → (same x a ≡ true) ⊎ (has rest a ≡ true)
      → has (cond b rest (x ∷ rest)) a ≡ true
  has-cond true x a rest differs h = elim h [ inl here ↦ absurd (differs refl here) | inr there ↦ there ]
  has-cond false x a rest differs h = elim h [ inl here ↦ rw here | inr there ↦ or-right (same x a) (has rest a) there ]

  nothing_in : (pool : List A) (a : A) → length pool ≤ 0 → has pool a ≡ true → ⊥
  nothing_in [] a few h = cc
  nothing_in (x ∷ xs) a few h = absurd (omega arith)

-- ---- a shorter path

abbrev Avoids : {A : Type 0} → A → A → List A → Type 0
Avoids a x [] = Unit {0}
Avoids a x (y ∷ ys) = (x ≡ a → ⊥) × Avoids a y ys

module _ {A : Type 0} (same : A → A → Bool) (tells : (x y : A) → Decides (same x y) (x ≡ y)) (Leads : A → A
    → Type 0) where
  has-without : (a b : A) (xs : List A) → (b ≡ a → ⊥) → has same xs b ≡ true → has same (without same a xs) b ≡ true
  has-without a b [] other h = cc
  has-without a b (x ∷ xs) other h =
      has-cond same (same x a) x b (without same a xs)
      (λ is_a is_b. other (sym ((tells x b).0 is_b) ∙ (tells x a).0 is_a))
      (elim (or-cases (same x b) (has same xs b) h) [
        | inl here ↦ inl here
        | inr there ↦
            inr (has-without a b xs other there)
      ])

  inside-without : (a : A) (pool : List A) (b : A) (xs : List A) → Inside same pool b xs → Avoids a b xs
      → Inside same (without same a pool) b xs
  inside-without a pool b [] i v = tt
  inside-without a pool b (x ∷ xs) i v = (has-without a b pool v.0 i.0, inside-without a pool x xs i.1 v.1)

  -- after the last visit of a node
  abbrev After : List A → A → A → Type 0
  After pool a b = (y : A) × Leads a y × ((ys : List A) × IsPath Leads y ys b × Inside same pool y ys × Avoids a y ys)

  visited : (pool : List A) (a b c x : A) (xs : List A) (r : Bool) → same c a ≡ r
      → Leads c x → IsPath Leads x xs b → Inside same pool x xs → Avoids a x xs → Avoids a c (x ∷ xs) ⊎ After pool a b
  visited pool a b c x xs true e h p i v = inr (x, subst (λ (n : A). Leads n x) ((tells c a).0 e) h, (xs, p, i, v))
  visited pool a b c x xs false e h p i v =
      let other : c ≡ a → ⊥ = λ is. differ (same c a) ((tells c a).1 is) e in
      inl (other, v)
    where
      differ : (b : Bool) → b ≡ true → b ≡ false → ⊥
      differ b p q = cc

  split : (pool : List A) (a b c : A) (xs : List A) → IsPath Leads c xs b → Inside same pool c xs
      → Avoids a c xs ⊎ After pool a b
  split pool a b c [] p i = inl tt
  split pool a b c (x ∷ xs) p i =
      elim (split pool a b x xs p.1 i.1) [
        | inl avoids ↦ visited pool a b c x xs (same c a) refl p.0 p.1 i.1 avoids
        | inr following ↦ inr following
      ]

  -- a path of so many steps at most
  abbrev pub Short : ℕ → A → A → Type 0
  Short steps a b = (xs : List A) × IsPath Leads a xs b × (length xs ≤ steps)

  pub shortened : (steps : ℕ) (pool : List A) (a b : A) (xs : List A) → length pool ≤ steps → IsPath Leads a xs b
      → Inside same pool a xs → Short steps a b
  shortened steps pool a b [] few p i = ([], p, omega arith)
  shortened zero pool a b (x ∷ xs) few p i = absurd (nothing_in same pool a few i.0)
  shortened (suc n) pool a b (x ∷ xs) few p i =
      elim (split pool a b a (x ∷ xs) p i) [
        | inl avoids ↦ absurd (avoids.0 refl)
        | inr following ↦
            let fewer : length (without same a pool) ≤ n = omega (arith, length-without same a pool i.0) in
            let rest : (ys : List A) × IsPath Leads following.0 ys b × Inside same pool following.0 ys
            × Avoids a following.0 ys = following.2 in
            let short : Short n following.0 b =
            shortened n (without same a pool) following.0 b rest.0 fewer rest.1
            (inside-without a pool following.0 rest.0 rest.2 rest.3) in
            (following.0 ∷ short.0, (following.1, short.1), omega (arith, short.2))
      ]
