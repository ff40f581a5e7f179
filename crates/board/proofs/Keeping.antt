-- The rule is kept where a view is cut in two, where two become one, and where a word changes.
use Rattle.std.proofs.Common.{◌≡◌, ◌≢◌, ◌+◌, ℕ, zero, suc, Bool, true, false, List, [], ◌∷◌, ◌++◌, length, set, refl}
use Rattle.std.proofs.Common.{ap, sym, ◌∙◌, subst, ◌⊎◌, inl, inr, ⊎_elim, length-set, eq-eqb, ne_eqb, arith}
use Rattle.std.specs.Prelude.{if◌then◌else◌, nat_eq}
use mathlib.Core.Option.{some, some-injective, some-ne-none}
use lib.ListN.{get_elem?}
use Rattle.atomic_table.specs.Table.{State, Splits, Joins}
use Rattle.atomic_table.proofs.Lists.{at_set}
use Rattle.board.specs.declared.views.View.{View}
use Rattle.board.specs.Marks.{is_own}
use Rattle.board.specs.Rule.{Fits, IsKept, spent}

abbrev pub Owns : View → ℕ → Type 0
Owns v w = is_own v.marks w ≡ true

-- what owned a count before, and where the count's owner is now
abbrev pub OwnedFrom : List View → (ℕ → ℕ → ℕ) → ℕ → ℕ → Type 0
OwnedFrom views place j w = (i : ℕ) × (v : View) × (get_elem? views i ≡ some v) × Owns v w × (j ≡ place w i)

pub kept_so : (S : Type 0) (workers : ℕ) (s t : State S View) (place : ℕ → ℕ → ℕ) → IsKept S workers s → length t.words
    ≡ workers + 1
    → ((j : ℕ) (u : View) → get_elem? t.views j ≡ some u → Fits t.words u)
    → ((j : ℕ) (u : View) (w : ℕ) → get_elem? t.views j ≡ some u → Owns u w → OwnedFrom s.views place j w)
    → IsKept S workers t
kept_so S workers s t place kept long fits from = record {
  long = long;
  fits = fits;
  apart = λ i j u v at_i at_j w x y.
      let a = from i u w at_i x in
      let b = from j v w at_j y in
      a.4 ∙ (ap (place w) (kept.apart a.0 b.0 a.1 b.1 a.2 b.2 w a.3 b.3) ∙ sym b.4);
}

owns_same : (u v : View) (w : ℕ) → u ≡ v → Owns v w → Owns u w
owns_same u v w e o = subst (λ (x : View). Owns x w) (sym e) o

-- ---- a word changes, and the view of the seat that changes it

pub steps : (S : Type 0) (workers id : ℕ) (v u : View) (words : List ℕ) (s : State S View) → IsKept S workers s
    → get_elem? s.views id ≡ some v
    → length words ≡ workers + 1 → Fits words u → ((j : ℕ) (t : View) → j ≢ id → get_elem? s.views j ≡ some t
    → Fits words t)
    → ((w : ℕ) → Owns u w → Owns v w)
    → IsKept S workers (record { words = words; homes = s.homes; views = set s.views id u })
steps S workers id v u words s kept here long mine others own = kept_so S workers s
    (record { words = words; homes = s.homes; views = set s.views id u }) (λ w i. i) kept long
    (λ j t at. ⊎_elim (λ h. subst (Fits words) h.1 mine) (λ h. others j t h.0 h.1) (at_set s.views id j u t at))
    (λ j t w at o. ⊎_elim
    (λ h. (id, v, here, own w (owns_same u t w h.1 o), h.0))
    (λ h. (j, t, h.1, o, refl))
    (at_set s.views id j u t at))

-- ---- two views become one

-- the number i, but `to` in place of `from`
abbrev sent : ℕ → ℕ → ℕ → ℕ
sent from to i = if nat_eq i from then to else i

sent_it : (from to : ℕ) → sent from to from ≡ to
sent_it from to = ap (λ (b : Bool). if b then to else from) (eq-eqb from from refl)

sent_else : (from to i : ℕ) → i ≢ from → sent from to i ≡ i
sent_else from to i ne = ap (λ (b : Bool). if b then to else i) (ne_eqb i from ne)

fits_spent : (words : List ℕ) → Fits words spent
fits_spent words = record { counts = λ w. (omega arith, tt); stop = λ e. absurd (cc); guest = tt }

owns_nothing : (w : ℕ) → Owns spent w → ⊥
owns_nothing w e = cc

pub joins : (S : Type 0) (workers id : ℕ) (v : View) (other : ℕ) (w both : View)
    → ((words : List ℕ) → ((x : ℕ) → Owns v x → Owns w x → ⊥) → Fits words v → Fits words w → Fits words both)
    → ((x : ℕ) → Owns both x → Owns v x ⊎ Owns w x) → Joins (IsKept S workers) id v other w both spent
joins S workers id v other w both fit own s kept here ne there =
    let was : get_elem? s.views other ≡ some w = ⊎_elim (λ h. absurd (ne h.0)) (λ h. h.1)
    (at_set s.views id other both w there) in
    kept_so S workers s (record { words = s.words; homes = s.homes; views = set (set s.views id both) other spent })
    (λ x i. sent other id i) kept kept.long
    (λ j u at. ⊎_elim
    (λ h. subst (Fits s.words) h.1 (fits_spent s.words))
    (λ h. ⊎_elim (λ k. subst (Fits s.words) k.1 (fit s.words (λ x a b. ne (kept.apart other id w v was here x b a))
    (kept.fits id v here) (kept.fits other w was))) (λ k. kept.fits j u k.1) (at_set s.views id j both u h.1))
    (at_set (set s.views id both) other j spent u at))
    (λ j u x at o. ⊎_elim
    (λ h. absurd (owns_nothing x (owns_same spent u x h.1 o)))
    (λ h. ⊎_elim
    (λ k. ⊎_elim
    (λ mine. (id, v, here, mine, k.0 ∙ sym (sent_else other id id (λ e. ne (sym e)))))
    (λ yours. (other, w, was, yours, k.0 ∙ sym (sent_it other id)))
    (own x (owns_same both u x k.1 o)))
    (λ k. (j, u, k.1, o, sym (sent_else other id j h.0)))
    (at_set s.views id j both u h.1))
    (at_set (set s.views id both) other j spent u at))

-- ---- a view is cut in two

at_end : {A : Type 0} (l : List A) (a b : A) (j : ℕ) → get_elem? (l ++ a ∷ []) j ≡ some b
    → (get_elem? l j ≡ some b) ⊎ ((j ≡ length l) × (a ≡ b))
at_end [] a b zero e = inr (refl, some-injective a b e)
at_end [] a b (suc j) e = absurd (some-ne-none b (sym e))
at_end (x ∷ xs) a b zero e = inl e
at_end (x ∷ xs) a b (suc j) e = ⊎_elim inl (λ t. inr (ap suc t.0, t.1)) (at_end xs a b j e)

not_true : (b : Bool) → (b ≡ true → ⊥) → b ≡ false
not_true true never = absurd (never refl)
not_true false never = refl

-- the owner of a count goes from `from` to `to` where the second view owns it
abbrev moved : Bool → ℕ → ℕ → ℕ → ℕ
moved true from to i = sent from to i
moved false from to i = i

moved_else : (b : Bool) (from to i : ℕ) → i ≢ from → moved b from to i ≡ i
moved_else true from to i ne = sent_else from to i ne
moved_else false from to i ne = refl

pub splits : (S : Type 0) (workers id : ℕ) (v left right : View) → ((words : List ℕ) → Fits words v → Fits words left
    × Fits words right)
    → ((w : ℕ) → Owns left w → Owns v w) → ((w : ℕ) → Owns right w → Owns v w)
    → ((w : ℕ) → Owns left w → Owns right w → ⊥)
    → Splits (IsKept S workers) id v left right
splits S workers id v left right fit own_left own_right apart s kept here =
    let new : ℕ = length s.views in
    let pair = fit s.words (kept.fits id v here) in
    kept_so S workers s (record { words = s.words; homes = s.homes; views = set s.views id left ++ right ∷ [] })
    (λ w i. moved (is_own right.marks w) id new i) kept kept.long
    (λ j u at. ⊎_elim
    (λ h. ⊎_elim (λ k. subst (Fits s.words) k.1 pair.0) (λ k. kept.fits j u k.1) (at_set s.views id j left u h))
    (λ h. subst (Fits s.words) h.1 pair.1)
    (at_end (set s.views id left) right u j at))
    (λ j u w at o. ⊎_elim
    (λ h. ⊎_elim
    (λ k. let mine = owns_same left u w k.1 o in (
      id,
      v,
      here,
      own_left w mine,
      k.0 ∙ sym (ap (λ (b : Bool). moved b id new id) (not_true (is_own right.marks w) (apart w mine))),
    ))
    (λ k. (j, u, k.1, o, sym (moved_else (is_own right.marks w) id new j k.0)))
    (at_set s.views id j left u h))
    (λ h. let yours = owns_same right u w h.1 o in (
      id,
      v,
      here,
      own_right w yours,
      (h.0 ∙ length-set s.views id left)
          ∙ sym (ap (λ (b : Bool). moved b id new id) yours ∙ sent_it id new),
    ))
    (at_end (set s.views id left) right u j at))
