-- Two lists that agree pair by pair.
use Rattle.std.proofs.Common.{◌≡◌, suc, List, [], ◌∷◌, ◌++◌, length, refl, ap}
use Rattle.hall.specs.Homes.{Pairwise}

module _ {A : Type 0} (R : A → A → Type 0) where
  push : (xs ys : List A) (x y : A) → Pairwise R xs ys → R x y → Pairwise R (xs ++ x ∷ []) (ys ++ y ∷ [])
  push [] [] x y all last = (last, tt)
  push [] (b ∷ ys) x y all last = absurd all
  push (a ∷ xs) [] x y all last = absurd all
  push (a ∷ xs) (b ∷ ys) x y all last = (all.0, push xs ys x y all.1 last)

  -- one more pair after them
  pub and_last : (all home xs ys : List A) (x y : A) → all ≡ xs ++ x ∷ [] → home ≡ ys ++ y ∷ [] → Pairwise R xs ys
      → R x y → Pairwise R all home
  and_last all home xs ys x y is was rest last = rw (is, was) (push xs ys x y rest last)

  pub as_long : (xs ys : List A) → Pairwise R xs ys → length ys ≡ length xs
  as_long [] [] all = refl
  as_long [] (b ∷ ys) all = absurd all
  as_long (a ∷ xs) [] all = absurd all
  as_long (a ∷ xs) (b ∷ ys) all = ap suc (as_long xs ys all.1)
