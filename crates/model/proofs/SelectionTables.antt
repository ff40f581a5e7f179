-- A class has one selection table.
use Rattle.std.proofs.Common.{◌≡◌, ◌⊎◌, inl, inr, ℕ, zero, suc, List, [], ◌∷◌, Less, Greater, Ordering, refl, sym, ap}
use Rattle.std.proofs.Common.{◌∙◌, subst, arith}
use Rattle.std.proofs.lemmas.Cmp.{nat_list_cmp_total, on_total, then_total}
use Rattle.std.proofs.lemmas.List.Elements.{All-contains, All-from_recursion}
use Rattle.std.proofs.lemmas.Map.Keys.{sorted_head, sorted_tail}
use Rattle.std.specs.Cmp.{IsTotalOrder}
use Rattle.std.specs.List.{Contains, AllByRecursion}
use Rattle.std.specs.List.Sorted.{IsStrictlySortedBy}
use Rattle.std.specs.Ordering.{ordering_reverse}
use Rattle.model.specs.ClassListings.{ClassListing}
use Rattle.model.specs.Classes.SelectionTable.{SelectionRow, compared, IsSelected, IsSelectionTable}

-- ---- strictly sorted lists with the same elements

contains-cases : {X : Type 0} → (y : X) (ys : List X) (x : X) → Contains (y ∷ ys) x → (x ≡ y) ⊎ Contains ys x
contains-cases y ys x (zero, below, e) = inl (sym e)
contains-cases y ys x (suc k, below, e) = inr (k, omega arith, e)

contains-head : {X : Type 0} → (x : X) (xs : List X) → Contains (x ∷ xs) x
contains-head x xs = (0, omega arith, refl)

contains-tail : {X : Type 0} → (y : X) (ys : List X) (x : X) → Contains ys x → Contains (y ∷ ys) x
contains-tail y ys x (k, below, e) = (suc k, omega arith, e)

none : {X : Type 0} → (x : X) → Contains [] x → ⊥
none x (k, below, e) = absurd (omega arith)

each-of : {X : Type 0} → (P : X → Type 0) (xs : List X) (x : X) → AllByRecursion P xs → Contains xs x → P x
each-of P xs x all h = All-contains P xs x (All-from_recursion P xs all) h

module _ {X : Type 0} (R : X → X → Ordering) (order : IsTotalOrder R) where
  never : (x y : X) → R x y ≡ Less → R y x ≡ Less → ⊥
  never x y e f = differ (sym e ∙ order.antisymm x y ∙ ap ordering_reverse f)
    where
      differ : Less ≡ Greater → ⊥
      differ h = cc

  not_itself : (x y : X) → x ≡ y → R x y ≡ Less → ⊥
  not_itself x y e l = let self : R x x ≡ Less = subst (λ (z : X). R x z ≡ Less) (sym e) l in never x x self self

  same_sorted : (xs ys : List X) → IsStrictlySortedBy R xs → IsStrictlySortedBy R ys
      → ((x : X) → Contains xs x → Contains ys x) → ((x : X) → Contains ys x → Contains xs x) → xs ≡ ys
  same_sorted [] [] s t to from = refl
  same_sorted [] (y ∷ ys) s t to from = absurd (none y (from y (contains-head y ys)))
  same_sorted (x ∷ xs) [] s t to from = absurd (none x (to x (contains-head x xs)))
  same_sorted (x ∷ xs) (y ∷ ys) s t to from =
      let above_x : (z : X) → Contains xs z
      → R x z ≡ Less = λ z h. each-of (λ z. R x z ≡ Less) xs z (sorted_head R x xs s) h in
      let above_y : (z : X) → Contains ys z
      → R y z ≡ Less = λ z h. each-of (λ z. R y z ≡ Less) ys z (sorted_head R y ys t) h in
      let first : x ≡ y = elim (contains-cases y ys x (to x (contains-head x xs))) [
        | inl e ↦ e
        | inr x_there ↦ elim (contains-cases x xs y (from y (contains-head y ys))) [
          | inl e ↦ sym e
          | inr y_there ↦ absurd (never x y (above_x y y_there) (above_y x x_there))
        ]
      ] in
      let rest : xs ≡ ys = same_sorted xs ys (sorted_tail R x xs s) (sorted_tail R y ys t)
      (λ z h. elim (contains-cases y ys z (to z (contains-tail x xs z h))) [
        | inl e ↦ absurd (not_itself x z (first ∙ sym e) (above_x z h))
        | inr there ↦ there
      ])
      (λ z h. elim (contains-cases x xs z (from z (contains-tail y ys z h))) [
        | inl e ↦ absurd (not_itself y z (sym first ∙ sym e) (above_y z h))
        | inr there ↦ there
      ]) in
      ap (λ (l : List X). x ∷ l) rest ∙ ap (λ (z : X). z ∷ ys) first

-- ---- tables

compared_total : IsTotalOrder compared
compared_total = then_total (on_total (λ (r : SelectionRow). r.name) nat_list_cmp_total)
    (on_total (λ (r : SelectionRow). r.descriptor) nat_list_cmp_total)

pub one_table : (program : List ClassListing) (class : List ℕ) (rows others : List SelectionRow)
    → IsSelectionTable program class rows → IsSelectionTable program class others → rows ≡ others
one_table program class rows others a b =
    same_sorted compared compared_total rows others a.rising b.rising
    (λ row h. b.whole row (All-contains (IsSelected program class) rows row a.given h))
    (λ row h. a.whole row (All-contains (IsSelected program class) others row b.given h))
