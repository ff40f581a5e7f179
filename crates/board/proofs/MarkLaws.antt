-- What becomes of each worker's mark, and which counts a mark is right of.
use Rattle.std.proofs.Common.{◌≡◌, ◌≢◌, ◌≤◌, ℕ, zero, suc, max, true, List, [], ◌∷◌, map, refl, ap, sym, ◌∙◌, subst}
use Rattle.std.proofs.Common.{arith, le_refl, ◌⊎◌, inl, inr}
use Rattle.std.specs.Prelude.{Option, None, Some, IfSome, option_map}
use Rattle.std.specs.Option.{option_or, is_some}
use mathlib.Core.Logic.{dite}
use native.Mathlib.Decide.{ℕ_discrete}
use Rattle.board.specs.declared.views.Mark.{Mark}
use Rattle.board.specs.Marks.{unmarked, mark_of, changed, found, released, without, only, joined, together, Stands}

mark_of-changed : (f : Mark → Mark) (ms : List Mark) (w : ℕ) → mark_of (changed f ms w) w ≡ f (mark_of ms w)
mark_of-changed f [] zero = refl
mark_of-changed f [] (suc w) = mark_of-changed f [] w
mark_of-changed f (m ∷ ms) zero = refl
mark_of-changed f (m ∷ ms) (suc w) = mark_of-changed f ms w

mark_of-changed_else : (f : Mark → Mark) (ms : List Mark) (w k : ℕ) → k ≢ w → mark_of (changed f ms w) k ≡ mark_of ms k
mark_of-changed_else f [] zero zero ne = absurd (ne refl)
mark_of-changed_else f [] zero (suc k) ne = refl
mark_of-changed_else f [] (suc w) zero ne = refl
mark_of-changed_else f [] (suc w) (suc k) ne = mark_of-changed_else f [] w k (λ e. ne (ap suc e))
mark_of-changed_else f (m ∷ ms) zero zero ne = absurd (ne refl)
mark_of-changed_else f (m ∷ ms) zero (suc k) ne = refl
mark_of-changed_else f (m ∷ ms) (suc w) zero ne = refl
mark_of-changed_else f (m ∷ ms) (suc w) (suc k) ne = mark_of-changed_else f ms w k (λ e. ne (ap suc e))

mark_of-released : (ms : List Mark) (k : ℕ) → mark_of (map released ms) k ≡ released (mark_of ms k)
mark_of-released [] k = refl
mark_of-released (m ∷ ms) zero = refl
mark_of-released (m ∷ ms) (suc k) = mark_of-released ms k

joined_from_none : (m : Mark) → m ≡ joined unmarked m
joined_from_none m = λ i. record { seen = (let e : m.seen ≡ max 0 m.seen = omega arith in e i); own = m.own }

or_none : {A : Type 0} (o : Option A) → o ≡ option_or o None
or_none None = refl
or_none (Some x) = refl

joined_with_none : (m : Mark) → m ≡ joined m unmarked
joined_with_none m = λ i. record { seen = (let e : m.seen ≡ max m.seen 0 = omega arith in e i); own = or_none m.own i }

pub mark_of-together : (ms ns : List Mark) (k : ℕ) → mark_of (together ms ns) k ≡ joined (mark_of ms k) (mark_of ns k)
mark_of-together [] ns k = joined_from_none (mark_of ns k)
mark_of-together (m ∷ ms) [] k = joined_with_none (mark_of (m ∷ ms) k)
mark_of-together (m ∷ ms) (n ∷ ns) zero = refl
mark_of-together (m ∷ ms) (n ∷ ns) (suc k) = mark_of-together ms ns k

-- what holds of the changed mark, and of every other, holds of each
pub each_changed : (P : ℕ → Mark → Type 0) (f : Mark → Mark) (ms : List Mark) (w : ℕ) → P w (f (mark_of ms w))
    → ((k : ℕ) → k ≢ w → P k (mark_of ms k)) → (k : ℕ) → P k (mark_of (changed f ms w) k)
each_changed P f ms w here there k = dite (ℕ_discrete k w)
    (λ e. subst (λ (j : ℕ). P j (mark_of (changed f ms w) j)) (sym e) (subst (P w) (sym (mark_of-changed f ms w)) here))
    (λ ne. subst (P k) (sym (mark_of-changed_else f ms w k ne)) (there k ne))

pub each_only : (P : ℕ → Mark → Type 0) (ms : List Mark) (w : ℕ) → P w (mark_of ms w)
    → ((k : ℕ) → k ≢ w → P k (released (mark_of ms k))) → (k : ℕ) → P k (mark_of (only ms w) k)
each_only P ms w here there = each_changed P (λ _. mark_of ms w) (map released ms) w here
    (λ k ne. subst (P k) (sym (mark_of-released ms k)) (there k ne))

pub each_together : (P : ℕ → Mark → Type 0) (ms ns : List Mark) → ((k : ℕ) → P k (joined (mark_of ms k) (mark_of ns k)))
    → (k : ℕ) → P k (mark_of (together ms ns) k)
each_together P ms ns all k = subst (P k) (sym (mark_of-together ms ns k)) (all k)

pub mark_of-found : (ms : List Mark) (w n : ℕ) → mark_of (changed (found n) ms w) w ≡ found n (mark_of ms w)
mark_of-found ms w n = mark_of-changed (found n) ms w

pub mark_of-only : (ms : List Mark) (w : ℕ) → mark_of (only ms w) w ≡ mark_of ms w
mark_of-only ms w = mark_of-changed (λ _. mark_of ms w) (map released ms) w

-- ---- what is seen and owned stays, whoever owns the rest

pub seen-without : (ms : List Mark) (w k : ℕ) → (mark_of (without ms w) k).seen ≡ (mark_of ms k).seen
seen-without ms w = each_changed (λ k m. m.seen ≡ (mark_of ms k).seen) released ms w refl (λ k ne. refl)

pub seen-only : (ms : List Mark) (w k : ℕ) → (mark_of (only ms w) k).seen ≡ (mark_of ms k).seen
seen-only ms w = each_only (λ k m. m.seen ≡ (mark_of ms k).seen) ms w refl (λ k ne. refl)

pub own-without : (ms : List Mark) (w k : ℕ) → k ≢ w → (mark_of (without ms w) k).own ≡ (mark_of ms k).own
own-without ms w k ne = ap (λ (m : Mark). m.own) (mark_of-changed_else released ms w k ne)

pub own-without_it : (ms : List Mark) (w : ℕ) → (mark_of (without ms w) w).own ≡ None
own-without_it ms w = ap (λ (m : Mark). m.own) (mark_of-changed released ms w)

pub own-only : (ms : List Mark) (w k : ℕ) → k ≢ w → (mark_of (only ms w) k).own ≡ None
own-only ms w k ne = ap (λ (m : Mark). m.own) (mark_of-changed_else (λ _. mark_of ms w) (map released ms) w k ne
    ∙ mark_of-released ms k)

pub own-together : (ms ns : List Mark) (w : ℕ) → (mark_of (together ms ns) w).own
    ≡ option_or (mark_of ms w).own (mark_of ns w).own
own-together ms ns w = ap (λ (m : Mark). m.own) (mark_of-together ms ns w)

pub seen-together : (ms ns : List Mark) (w : ℕ) → ((mark_of ms w).seen ≤ (mark_of (together ms ns) w).seen)
    × ((mark_of ns w).seen ≤ (mark_of (together ms ns) w).seen)
seen-together ms ns = each_together (λ w m. ((mark_of ms w).seen ≤ m.seen) × ((mark_of ns w).seen ≤ m.seen)) ms ns
    (λ w. (omega arith, omega arith))

-- ---- the mark of a worker whose count is n

pub stands_released : (n : ℕ) (m : Mark) → Stands n m → Stands n (released m)
stands_released n m is = (is.0, tt)

owned_either : (n : ℕ) (o p : Option ℕ) → IfSome o (λ c. n ≡ c) → IfSome p (λ c. n ≡ c)
    → IfSome (option_or o p) (λ c. n ≡ c)
owned_either n None p x y = y
owned_either n (Some c) p x y = x

pub stands_joined : (n : ℕ) (m o : Mark) → Stands n m → Stands n o → Stands n (joined m o)
stands_joined n m o x y = ((let a = x.0 in let b = y.0 in omega arith), owned_either n m.own o.own x.1 y.1)

owned_found : (n : ℕ) (o : Option ℕ) → IfSome (option_map (λ _. n) o) (λ c. n ≡ c)
owned_found n None = tt
owned_found n (Some c) = refl

pub stands_found : (n : ℕ) (m : Mark) → Stands n (found n m)
stands_found n m = (le_refl n, owned_found n m.own)

-- another's count may rise
pub stands_risen : (n k : ℕ) (m : Mark) → n ≤ k → m.own ≡ None → Stands n m → Stands k m
stands_risen n k m le foreign is = (
  (let a = is.0 in omega arith),
  subst (λ (o : Option ℕ). IfSome o (λ c. k ≡ c)) (sym foreign) tt,
)

pub owned_is : (n : ℕ) (m : Mark) (count : ℕ) → m.own ≡ Some count → Stands n m → n ≡ count
owned_is n m count own is = subst (λ (o : Option ℕ). IfSome o (λ c. n ≡ c)) own is.1

-- ---- who owns

pub some_found : (n : ℕ) (o : Option ℕ) → is_some (option_map (λ _. n) o) ≡ is_some o
some_found n None = refl
some_found n (Some c) = refl

pub some_either : (o p : Option ℕ) → is_some (option_or o p) ≡ true → (is_some o ≡ true) ⊎ (is_some p ≡ true)
some_either None p e = inr e
some_either (Some c) p e = inl refl

pub own_count : (o : Option ℕ) (c : ℕ) → o ≡ Some c → is_some o ≡ true
own_count o c e = ap is_some e
