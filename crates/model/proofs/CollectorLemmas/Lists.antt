use Rattle.std.proofs.Common.{◌≡◌, ◌⊎◌, inl, inr, ℕ, List, [], ◌∷◌, ◌++◌, refl, sym}
use Rattle.model.specs.Collector.Invariant.{In, Distinct}

-- lists of births and of cells

pub In-left : (xs ys : List ℕ) (b : ℕ) → In b xs → In b (xs ++ ys)
In-left [] ys b h = absurd h
In-left (x ∷ xs) ys b (inl e) = inl e
In-left (x ∷ xs) ys b (inr h) = inr (In-left xs ys b h)

pub In-last : (xs : List ℕ) (b : ℕ) → In b (xs ++ b ∷ [])
In-last [] b = inl refl
In-last (x ∷ xs) b = inr (In-last xs b)

pub In-push_cases : (xs : List ℕ) (y b : ℕ) → In b (xs ++ y ∷ []) → In b xs ⊎ (b ≡ y)
In-push_cases [] y b (inl e) = inr e
In-push_cases [] y b (inr h) = absurd h
In-push_cases (x ∷ xs) y b (inl e) = inl (inl e)
In-push_cases (x ∷ xs) y b (inr h) = elim (In-push_cases xs y b h) [ inl r ↦ inl (inr r) | inr e ↦ inr e ]

pub Distinct-push : (xs : List ℕ) (y : ℕ) → Distinct xs → (In y xs → ⊥) → Distinct (xs ++ y ∷ [])
Distinct-push [] y d h = (λ k. k, tt)
Distinct-push (x ∷ xs) y d h = (
  λ k. elim (In-push_cases xs y x k) [ inl r ↦ d.0 r | inr e ↦ h (inl (sym e)) ],
  Distinct-push xs y d.1 (λ k. h (inr k)),
)
