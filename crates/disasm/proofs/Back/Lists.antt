-- Tests of each element of a list, and numbers among numbers.
use Rattle.std.proofs.Common.{◌≡◌, ℕ, Bool, true, ◌&&◌, ◌==◌, List, [], ◌∷◌, ◌++◌, map, flat_map, refl, sym, ap, ◌∙◌}
use Rattle.std.proofs.Common.{eq-eqb}
use Rattle.std.specs.List.{list_all}
use Rattle.std.proofs.lemmas.Bool.{and_parts, and_from, or_left, or_right}
use Rattle.std.proofs.lemmas.List.Folds.{list_all-append}
use Rattle.model.specs.Texts.Disassembling.{is_named}

pub all_and : {A : Type 0} (a b : A → Bool) (xs : List A) → list_all a xs ≡ true → list_all b xs ≡ true
    → list_all (λ x. a x && b x) xs ≡ true
all_and a b [] e f = refl
all_and a b (x ∷ xs) e f =
    let first = and_parts (a x) (list_all a xs) e in
    let other = and_parts (b x) (list_all b xs) f in
    and_from (a x && b x) (list_all (λ y. a y && b y) xs) (and_from (a x) (b x) first.0 other.0)
    (all_and a b xs first.1 other.1)

pub all_from : {A : Type 0} (a b : A → Bool) → ((x : A) → a x ≡ true → b x ≡ true) → (xs : List A) → list_all a xs
    ≡ true → list_all b xs ≡ true
all_from a b f [] e = refl
all_from a b f (x ∷ xs) e =
    let parts = and_parts (a x) (list_all a xs) e in
    and_from (b x) (list_all b xs) (f x parts.0) (all_from a b f xs parts.1)

pub all_parts : {A : Type 0} (a : A → Bool) (xs ys : List A) → list_all a (xs ++ ys) ≡ true → (list_all a xs ≡ true)
    × (list_all a ys ≡ true)
all_parts a xs ys e = and_parts (list_all a xs) (list_all a ys) (sym (list_all-append a xs ys) ∙ e)

pub all_joined : {A : Type 0} (a : A → Bool) (xs ys : List A) → list_all a xs ≡ true → list_all a ys ≡ true
    → list_all a (xs ++ ys) ≡ true
all_joined a xs ys e f = list_all-append a xs ys ∙ and_from (list_all a xs) (list_all a ys) e f

pub all_flat : {A B : Type 0} (a : B → Bool) (h : A → List B) (xs : List A) → list_all a (flat_map h xs) ≡ true
    → list_all (λ x. list_all a (h x)) xs ≡ true
all_flat a h [] e = refl
all_flat a h (x ∷ xs) e =
    let parts = all_parts a (h x) (flat_map h xs) e in
    and_from (list_all a (h x)) (list_all (λ y. list_all a (h y)) xs) parts.0 (all_flat a h xs parts.1)

-- what a step takes back for each element that passes, it takes back for a list
pub map_again : {A B : Type 0} (there : A → B) (back : B → A) (a : A → Bool)
    → ((x : A) → a x ≡ true → back (there x) ≡ x) → (xs : List A) → list_all a xs ≡ true → map back (map there xs) ≡ xs
map_again there back a f [] e = refl
map_again there back a f (x ∷ xs) e =
    let parts = and_parts (a x) (list_all a xs) e in
    ap (λ y. y ∷ map back (map there xs)) (f x parts.0) ∙ ap (λ ys. x ∷ ys) (map_again there back a f xs parts.1)

-- each of some numbers is among them
pub named_each : (all xs : List ℕ) → ((n : ℕ) → is_named xs n ≡ true → is_named all n ≡ true)
    → list_all (is_named all) xs ≡ true
named_each all [] f = refl
named_each all (x ∷ xs) f =
    and_from (is_named all x) (list_all (is_named all) xs) (f x (or_left (x == x) (is_named xs x) (eq-eqb x x refl)))
    (named_each all xs (λ n e. f n (or_right (x == n) (is_named xs n) e)))

pub named_all : (pcs : List ℕ) → list_all (is_named pcs) pcs ≡ true
named_all pcs = named_each pcs pcs (λ n e. e)
