-- The class at a number is the class of the name.
use Rattle.std.proofs.Common.{◌≡◌, ℕ, suc, ◌<◌, List, [], ◌∷◌, ◌++◌, map, length, slice_get, nat_lt, Bool, true, false}
use Rattle.std.proofs.Common.{cond, Option, Some, None, IfSome, unwrap_or, refl, sym, subst, ap, ◌∙◌}
use Rattle.std.specs.List.{find, position, position_or_len}
use Rattle.std.specs.Option.{option_and_then}
use Rattle.std.specs.Str.{bytes_eq}
use Rattle.std.proofs.lemmas.Bool.{ltb-false, ltb-true}
use Rattle.std.proofs.lemmas.List.Folds.{find_at}
use Rattle.std.proofs.lemmas.Option.{slice_get_past}
use Rattle.model.specs.ClassListings.{ClassListing}
use Rattle.model.specs.Classes.Builtin.{builtin_classes}
use Rattle.model.specs.Classes.Named.{class_named, is_named, or_else}
use Rattle.resolve.specs.Numbers.{all_classes, class_number, name_of}
use Rattle.resolve.proofs.IndexLemmas.{turned}
use Rattle.resolve.proofs.NumberLemmas.{position-map}

pub place-found : {A : Type 0} (p : A → Bool) (xs : List A) → option_and_then (slice_get xs) (position p xs) ≡ find p xs
place-found {A = A} p xs = by (nat_lt (position_or_len p xs) (length xs)) refl
  where
    place : ℕ
    place = position_or_len p xs

    by : (b : Bool) → nat_lt place (length xs) ≡ b → option_and_then (slice_get xs) (cond b (Some place) None)
        ≡ find p xs
    by true h = sym (find_at p xs)
    by false h = sym (find_at p xs ∙ slice_get_past xs place (ltb-false place (length xs) h))

names-joined : (cs more : List ClassListing) → map name_of cs ++ map name_of more ≡ map name_of (cs ++ more)
names-joined [] more = refl
names-joined (c ∷ cs) more = ap (λ names. c.name ∷ names) (names-joined cs more)

find-named : (name : List ℕ) (cs more : List ClassListing)
    → find (λ (c : ClassListing). bytes_eq name c.name) (cs ++ more)
    ≡ or_else (find (is_named name) cs) (find (is_named name) more)
find-named name [] [] = refl
find-named name [] (c ∷ more) =
    ap (λ b. cond b (Some c) (find (λ (x : ClassListing). bytes_eq name x.name) more)) (turned name c.name)
    ∙ ap (cond (bytes_eq c.name name) (Some c)) (find-named name [] more)
find-named name (c ∷ cs) more =
    ap (λ b. cond b (Some c) (find (λ (x : ClassListing). bytes_eq name x.name) (cs ++ more))) (turned name c.name)
    ∙ ap (cond (bytes_eq c.name name) (Some c)) (find-named name cs more)
    ∙ by (bytes_eq c.name name) (find (is_named name) cs) (find (is_named name) more)
  where
    by : (b : Bool) (one other : Option ClassListing) → cond b (Some c) (or_else one other)
        ≡ or_else (cond b (Some c) one) other
    by true one other = refl
    by false one other = refl

pub class_at_number : (program : List ClassListing) (name : List ℕ)
    → option_and_then (slice_get (all_classes program)) (class_number program name) ≡ class_named program name
class_at_number program name =
    ap (λ names. option_and_then (slice_get (all_classes program)) (position (bytes_eq name) names))
    (names-joined program builtin_classes)
    ∙ ap (option_and_then (slice_get (all_classes program)))
    (position-map (bytes_eq name) name_of (all_classes program))
    ∙ place-found (λ (c : ClassListing). bytes_eq name c.name) (all_classes program)
    ∙ find-named name program builtin_classes

length-names : (cs : List ClassListing) → length (map name_of cs) ≡ length cs
length-names [] = refl
length-names (c ∷ cs) = ap suc (length-names cs)

-- a place that is found is in the list
pub place-inside : {A : Type 0} (p : A → Bool) (xs : List A) (n : ℕ) → Some n ≡ position p xs → n < length xs
place-inside {A = A} p xs n e = by (nat_lt place (length xs)) refl e
  where
    place : ℕ
    place = position_or_len p xs

    by : (b : Bool) → nat_lt place (length xs) ≡ b → Some n ≡ cond b (Some place) None → n < length xs
    by true h e = subst (λ (k : ℕ). k < length xs) (ap (λ (o : Option ℕ). unwrap_or o n) (sym e))
        (ltb-true place (length xs) h)
    by false h e = cc

-- a number is one of a class
pub number_inside : (program : List ClassListing) (name : List ℕ) (number : Option ℕ)
    → number ≡ class_number program name
    → IfSome number (λ n. n < length (all_classes program))
number_inside program name None is = tt
number_inside program name (Some n) is =
    let many : length (map name_of program ++ map name_of builtin_classes) ≡ length (all_classes program) =
    ap length (names-joined program builtin_classes) ∙ length-names (all_classes program) in
    subst (λ (m : ℕ). n < m) many (place-inside (bytes_eq name) (map name_of program ++ map name_of builtin_classes) n
    is)
