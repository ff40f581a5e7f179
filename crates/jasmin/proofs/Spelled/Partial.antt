-- What holds of all that a partial step gives.
use Rattle.std.proofs.Common.{◌≡◌, ℕ, Bool, true, false, ◌&&◌, ◌||◌, List, [], ◌∷◌, refl, subst, Some, None, Option}
use Rattle.std.specs.Prelude.{IfSome, if◌then◌else◌}
use Rattle.std.specs.List.{AllByRecursion, list_all}
use Rattle.std.specs.Option.{option_map, option_and_then}
use Rattle.std.specs.Str.{bytes_eq}
use Rattle.model.specs.Texts.Classes.{said_before, each}
use Rattle.model.specs.Texts.Tables.{named}

pub both_true : (a b : Bool) → (a && b) ≡ true → (a ≡ true) × (b ≡ true)
both_true true b h = (refl, h)
both_true false b h = absurd cc

pub and_true : (a b : Bool) → a ≡ true → b ≡ true → (a && b) ≡ true
and_true a b h k = rw (h, k) refl

pub regrouped : (a b c : Bool) → (a && b && c) ≡ true → (a && (b && c)) ≡ true
regrouped true b c h = h
regrouped false b c h = h

pub or_left : (a b : Bool) → a ≡ true → (a || b) ≡ true
or_left a b h = rw h refl

pub or_right : (a b : Bool) → b ≡ true → (a || b) ≡ true
or_right true b h = refl
or_right false b h = h

module _ {B : Type 0} (P : B → Type 0) where
  pub of_each : (o : Option B) → ((y : B) → P y) → IfSome o P
  of_each None h = tt
  of_each (Some y) h = h y

  pub of_map : {A : Type 0} (g : A → B) (o : Option A) → IfSome o (λ x. P (g x)) → IfSome (option_map g o) P
  of_map g None h = tt
  of_map g (Some x) h = h

  pub of_then : {A : Type 0} (g : A → Option B) (o : Option A) → IfSome o (λ x. IfSome (g x) P)
      → IfSome (option_and_then g o) P
  of_then g None h = tt
  of_then g (Some x) h = h

  pub of_any : {A : Type 0} (g : A → Option B) (o : Option A) → ((x : A) → IfSome (g x) P)
      → IfSome (option_and_then g o) P
  of_any g None h = tt
  of_any g (Some x) h = h x

  pub of_if : (b : Bool) (y : B) → (b ≡ true → P y) → IfSome (if b then Some y else None) P
  of_if true y h = h refl
  of_if false y h = tt

  pub of_test : (b : Bool) (o other : Option B) → (b ≡ true → IfSome o P) → (b ≡ false → IfSome other P)
      → IfSome (if b then o else other) P
  of_test true o other h k = h refl
  of_test false o other h k = k refl

  pub given : (o : Option B) (y : B) → o ≡ Some y → IfSome o P → P y
  given None y e h = absurd cc
  given (Some x) y e h = subst P (cc) h

-- what a table has under a word
pub in_table : {A : Type 0} (p : A → Bool) (rows : List (List ℕ × A)) (word : List ℕ) → list_all (λ row. p row.1) rows
    ≡ true → IfSome (named rows word) (λ a. p a ≡ true)
in_table p [] word h = tt
in_table p (row ∷ rows) word h =
    let parts = both_true (p row.1) (list_all (λ row. p row.1) rows) h in
    of_test (λ a. p a ≡ true) (bytes_eq word row.0) (Some row.1) (named rows word) (λ t. parts.0) (λ f.
    in_table p rows word parts.1)

-- what each of a list says
pub of_all : {A B : Type 0} (P : B → Type 0) (said : A → Option B) (xs : List A) → ((x : A) → IfSome (said x) P)
    → IfSome (each said xs) (AllByRecursion P)
of_all {A} {B} P said [] h = tt
of_all {A} {B} P said (x ∷ xs) h = by (said x) (each said xs) (h x) (of_all P said xs h)
  where
    by : (o : Option B) (rest : Option (List B)) → IfSome o P → IfSome rest (AllByRecursion P)
        → IfSome (said_before o rest) (AllByRecursion P)
    by None rest h k = tt
    by (Some y) None h k = tt
    by (Some y) (Some ys) h k = (h, k)

pub all_true : {A : Type 0} (p : A → Bool) (xs : List A) → AllByRecursion (λ x. p x ≡ true) xs → list_all p xs ≡ true
all_true p [] h = refl
all_true p (x ∷ xs) h = and_true (p x) (list_all p xs) h.0 (all_true p xs h.1)
