-- The test of subclasses tells the relation: a path upwards need not be longer than there are classes.
use Rattle.std.proofs.Common.{◌≡◌, ◌⊎◌, ℕ, zero, suc, ◌+◌, ◌≤◌, length, map, List, [], ◌∷◌, ◌++◌, Bool, true, false}
use Rattle.std.proofs.Common.{cond, ◌||◌, Option, Some, None, refl, arith, ap, subst, inl, inr, length-append}
use Rattle.std.proofs.lemmas.Slice.Eq.{bytes_eq-Decides}
use Rattle.std.specs.List.{find, list_any}
use Rattle.std.specs.Str.{bytes_eq}
use Rattle.model.specs.ClassListings.{ClassListing}
use Rattle.model.specs.Classes.Builtin.{builtin_classes}
use Rattle.model.specs.Classes.Named.{is_named, or_else, listed, builtin, parents_in, parents_named}
use Rattle.model.specs.Classes.Subclass.{HasName, Subclass}
use Rattle.model.specs.Classes.Subclass.Subclass.{same, parent, through}
use Rattle.model.specs.Classes.Subclasses.{is_within, is_subclass}
use Rattle.model.proofs.ShortPaths.{or-cases, or-right, IsPath, path-append, Short, shortened, has, has-append_left}
use Rattle.model.proofs.ShortPaths.{has-append_right, Inside}

-- ---- names that are equal

equal : (x y : List ℕ) → bytes_eq x y ≡ true → x ≡ y
equal x y h = (bytes_eq-Decides x y).0 h

itself : (x : List ℕ) → bytes_eq x x ≡ true
itself x = (bytes_eq-Decides x x).1 refl

any-found : (f : List ℕ → Bool) (xs : List (List ℕ)) → list_any f xs ≡ true → (x : List ℕ) × HasName xs x × (f x ≡ true)
any-found f [] h = cc
any-found f (x ∷ xs) h =
    elim (or-cases (f x) (list_any f xs) h) [
      | inl here ↦ (x, inl refl, here)
      | inr there ↦ let found : (y : List ℕ) × HasName xs y × (f y ≡ true) = any-found f xs there
          in (found.0, inr found.1, found.2)
    ]

any-has : (f : List ℕ → Bool) (xs : List (List ℕ)) (x : List ℕ) → HasName xs x → f x ≡ true → list_any f xs ≡ true
any-has f [] x h t = absurd h
any-has f (y ∷ ys) x (inl e) t = rw (e, t)
any-has f (y ∷ ys) x (inr h) t = or-right (f y) (list_any f ys) (any-has f ys x h t)

-- ---- what the test finds is so

pub is_within-Subclass : (steps : ℕ) (program : List ClassListing) (name above : List ℕ)
    → is_within steps program name above ≡ true
    → Subclass program name above
unfolding is_within
is_within-Subclass zero program name above h = subst (λ (x : List ℕ). Subclass program name x) (equal name above h) same
is_within-Subclass (suc n) program name above h =
    elim (or-cases (bytes_eq name above) (list_any (λ p. is_within n program p above) (parents_named program name)) h) [
      | inl here ↦ subst (λ (x : List ℕ). Subclass program name x) (equal name above here) same
      | inr there ↦
          let found : (p : List ℕ) × HasName (parents_named program name) p × (is_within n program p above ≡ true) =
          any-found (λ p. is_within n program p above) (parents_named program name) there in
          through found.0 (parent found.1) (is_within-Subclass n program found.0 above found.2)
    ]

-- ---- a relation is a path, and a short one is found

abbrev IsAbove : List ClassListing → List ℕ → List ℕ → Type 0
IsAbove program name above = HasName (parents_named program name) above

abbrev SomePath : List ClassListing → List ℕ → List ℕ → Type 0
SomePath program name above = (xs : List (List ℕ)) × IsPath (IsAbove program) name xs above

path_of : (program : List ClassListing) {name above : List ℕ} → Subclass program name above
    → SomePath program name above
path_of program same = ([], refl)
path_of program (parent {name = name} {above = above} h) = (above ∷ [], (h, refl))
path_of program (through {name = name} {above = above} middle p q) =
    let first : SomePath program name middle = path_of program p in
    let second : SomePath program middle above = path_of program q in
    (first.0 ++ second.0, path-append (IsAbove program) name middle above first.0 second.0 first.1 second.1)

here-within : (steps : ℕ) (program : List ClassListing) (name above : List ℕ) → name ≡ above
    → is_within steps program name above ≡ true
unfolding is_within
here-within zero program name above e = rw e (itself above)
here-within (suc n) program name above e = rw (e, itself above)

above-within : (steps : ℕ) (program : List ClassListing) (name above y : List ℕ)
    → HasName (parents_named program name) y
    → is_within steps program y above ≡ true → is_within (suc steps) program name above ≡ true
unfolding is_within
above-within steps program name above y h below =
    or-right (bytes_eq name above) (list_any (λ p. is_within steps program p above) (parents_named program name))
    (any-has (λ p. is_within steps program p above) (parents_named program name) y h below)

path-within : (steps : ℕ) (program : List ClassListing) (name above : List ℕ) (xs : List (List ℕ))
    → IsPath (IsAbove program) name xs above
    → length xs ≤ steps → is_within steps program name above ≡ true
path-within steps program name above [] p few = here-within steps program name above p
path-within zero program name above (x ∷ xs) p few = absurd (omega arith)
path-within (suc n) program name above (x ∷ xs) p few =
    above-within n program name above x p.0 (path-within n program x above xs p.1 (omega arith))

-- ---- the names of all classes: each name that has a parent is among them

abbrev name_of : ClassListing → List ℕ
name_of c = c.name

abbrev names_of : List ClassListing → List (List ℕ)
names_of program = map name_of program ++ map name_of builtin_classes

found-cond : (b : Bool) (c : ClassListing) (rest : Option ClassListing) (others : Bool) (x : List ℕ)
    → HasName (parents_in (cond b (Some c) rest)) x → (HasName (parents_in rest) x → others ≡ true) → (b || others)
    ≡ true
found-cond true c rest others x h k = refl
found-cond false c rest others x h k = k h

found-named : (cs : List ClassListing) (name x : List ℕ) → HasName (parents_in (find (is_named name) cs)) x
    → has bytes_eq (map name_of cs) name ≡ true
found-named [] name x h = absurd h
found-named (c ∷ cs) name x h =
    found-cond (bytes_eq c.name name) c (find (is_named name) cs) (has bytes_eq (map name_of cs) name) x h
    (λ k. found-named cs name x k)

found-either : (first second : Option ClassListing) (x : List ℕ) → HasName (parents_in (or_else first second)) x
    → HasName (parents_in first) x ⊎ HasName (parents_in second) x
found-either None second x h = inr h
found-either (Some c) second x h = inl h

parent-named : (program : List ClassListing) (name x : List ℕ) → HasName (parents_named program name) x
    → has bytes_eq (names_of program) name ≡ true
parent-named program name x h =
    elim (found-either (listed program name) (builtin name) x h) [
      | inl one ↦ has-append_left bytes_eq (map name_of program) (map name_of builtin_classes) name
          (found-named program name x one)
      | inr other ↦ has-append_right bytes_eq (map name_of program) (map name_of builtin_classes) name
          (found-named builtin_classes name x other)
    ]

path-inside : (program : List ClassListing) (name above : List ℕ) (xs : List (List ℕ))
    → IsPath (IsAbove program) name xs above
    → Inside bytes_eq (names_of program) name xs
path-inside program name above [] p = tt
path-inside program name above (x ∷ xs) p = (parent-named program name x p.0, path-inside program x above xs p.1)

builtin_names : length (map name_of builtin_classes) ≡ 23
unfolding builtin_classes
builtin_names = refl

length-map_name : (cs : List ClassListing) → length (map name_of cs) ≡ length cs
length-map_name [] = refl
length-map_name (c ∷ cs) = ap suc (length-map_name cs)

names-length : (program : List ClassListing) → length (names_of program) ≤ length program + 23
names-length program =
    omega (
      arith,
      length-append (map name_of program) (map name_of builtin_classes),
      builtin_names,
      length-map_name program,
    )

-- ---- the test and the relation agree

pub Subclass-is_subclass : (program : List ClassListing) (name above : List ℕ) → Subclass program name above
    → is_subclass program name above ≡ true
Subclass-is_subclass program name above h =
    let path : SomePath program name above = path_of program h in
    let short : Short bytes_eq bytes_eq-Decides (IsAbove program) (length program + 23) name above =
    shortened bytes_eq bytes_eq-Decides (IsAbove program) (length program + 23) (names_of program) name above path.0
    (names-length program)
    path.1 (path-inside program name above path.0 path.1) in
    path-within (length program + 23) program name above short.0 short.1 short.2

pub is_subclass-Subclass : (program : List ClassListing) (name above : List ℕ) → is_subclass program name above ≡ true
    → Subclass program name above
is_subclass-Subclass program name above h = is_within-Subclass (length program + 23) program name above h
