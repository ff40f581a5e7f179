-- The names that are reached upwards from some are those of the classes above them.
use Rattle.std.proofs.Common.{◌≡◌, ◌⊎◌, inl, inr, ℕ, zero, suc, ◌+◌, ◌≤◌, List, [], ◌∷◌, ◌++◌, length, map, take}
use Rattle.std.proofs.Common.{slice_get, Bool, true, false, ◌||◌, if◌then◌else◌, Option, Some, None, refl, arith, ap, sym, ◌∙◌}
use Rattle.std.proofs.Common.{subst}
use Rattle.std.specs.List.{list_any}
use Rattle.std.specs.Option.{option_and_then, option_map}
use Rattle.std.specs.Str.{bytes_eq}
use Rattle.std.proofs.lemmas.Option.{slice_get-map}
use Rattle.std.proofs.lemmas.Slice.Eq.{bytes_eq-Decides}
use Rattle.model.specs.ClassListings.{ClassListing}
use Rattle.model.specs.Classes.Named.{builtin, listed, or_else, parents_in, parents_named, parents_of}
use Rattle.model.specs.Classes.Subclass.{HasName, Subclass}
use Rattle.model.specs.Classes.Subclass.Subclass.{same, parent, through}
use Rattle.model.specs.Classes.Subclasses.{is_within, is_subclass}
use Rattle.model.proofs.SubclassTest.{Subclass-is_subclass}
use Rattle.resolve.proofs.ParentLemmas.{parents_in-builtin}
use Rattle.resolve.specs.Parents.{all_parents, parents_once}
use Rattle.resolve.specs.Reached.{has_name, with_name, with_names, is_one_below}

-- ---- keys and their names

pub has-map : {K : Type 0} (now : K → List ℕ) (name : List ℕ) (ks : List K) → list_any (λ k. bytes_eq name (now k)) ks
    ≡ has_name (map now ks) name
has-map now name [] = refl
has-map now name (k ∷ ks) = ap (λ b. bytes_eq name (now k) || b) (has-map now name ks)

map-append : {K : Type 0} (now : K → List ℕ) (ks : List K) (k : K) → map now (ks ++ k ∷ []) ≡ map now ks ++ now k ∷ []
map-append now [] k = refl
map-append now (x ∷ xs) k = ap (λ names. now x ∷ names) (map-append now xs k)

map-if : {K : Type 0} (now : K → List ℕ) (b : Bool) (ks : List K) (k : K)
    → map now (if b then ks else ks ++ k ∷ []) ≡ (if b then map now ks else map now ks ++ now k ∷ [])
map-if now true ks k = refl
map-if now false ks k = map-append now ks k

pub with_name-map : {K : Type 0} (now : K → List ℕ) (ks : List K) (k : K)
    → map now (if list_any (λ x. bytes_eq (now k) (now x)) ks then ks else ks ++ k ∷ [])
    ≡ with_name (map now ks) (now k)
with_name-map now ks k =
    map-if now (list_any (λ x. bytes_eq (now k) (now x)) ks) ks k
    ∙ ap (λ b. if b then map now ks else map now ks ++ now k ∷ []) (has-map now (now k) ks)

-- ---- names among names

pub or-cases : (a b : Bool) → (a || b) ≡ true → (a ≡ true) ⊎ (b ≡ true)
or-cases true b h = inl refl
or-cases false b h = inr h

pub or-right : (a b : Bool) → b ≡ true → (a || b) ≡ true
or-right true b h = refl
or-right false b h = h

pub any-found : (f : List ℕ → Bool) (xs : List (List ℕ)) → list_any f xs ≡ true → (x : List ℕ) × HasName xs x
    × (f x ≡ true)
any-found f [] h = cc
any-found f (x ∷ xs) h =
    elim (or-cases (f x) (list_any f xs) h) [
      | inl here ↦ (x, inl refl, here)
      | inr there ↦ let found : (y : List ℕ) × HasName xs y × (f y ≡ true) = any-found f xs there
          in (found.0, inr found.1, found.2)
    ]

pub any-has : (f : List ℕ → Bool) (xs : List (List ℕ)) (x : List ℕ) → HasName xs x → f x ≡ true → list_any f xs ≡ true
any-has f [] x h t = absurd h
any-has f (y ∷ ys) x (inl e) t = rw (e, t)
any-has f (y ∷ ys) x (inr h) t = or-right (f y) (list_any f ys) (any-has f ys x h t)

pub has-HasName : (names : List (List ℕ)) (name : List ℕ) → has_name names name ≡ true → HasName names name
has-HasName names name h =
    let found : (x : List ℕ) × HasName names x × (bytes_eq name x ≡ true) = any-found (bytes_eq name) names h in
    subst (λ (x : List ℕ). HasName names x) (sym ((bytes_eq-Decides name found.0).0 found.2)) found.1

pub HasName-has : (names : List (List ℕ)) (name : List ℕ) → HasName names name → has_name names name ≡ true
HasName-has names name h = any-has (bytes_eq name) names name h ((bytes_eq-Decides name name).1 refl)

in-left : (xs ys : List (List ℕ)) (x : List ℕ) → HasName xs x → HasName (xs ++ ys) x
in-left [] ys x h = absurd h
in-left (y ∷ xs) ys x (inl e) = inl e
in-left (y ∷ xs) ys x (inr h) = inr (in-left xs ys x h)

in-last : (xs : List (List ℕ)) (x : List ℕ) → HasName (xs ++ x ∷ []) x
in-last [] x = inl refl
in-last (y ∷ xs) x = inr (in-last xs x)

in-either : (xs : List (List ℕ)) (y x : List ℕ) → HasName (xs ++ y ∷ []) x → HasName xs x ⊎ (y ≡ x)
in-either [] y x (inl e) = inr e
in-either [] y x (inr h) = absurd h
in-either (z ∷ xs) y x (inl e) = inl (inl e)
in-either (z ∷ xs) y x (inr h) = elim (in-either xs y x h) [ inl there ↦ inl (inr there) | inr e ↦ inr e ]

-- ---- what stands in the names with some more

abbrev Extension : List (List ℕ) → List (List ℕ) → Type 0
Extension names more = (extra : List (List ℕ)) × (more ≡ names ++ extra)

append-nil : (xs : List (List ℕ)) → xs ≡ xs ++ []
append-nil [] = refl
append-nil (x ∷ xs) = ap (λ ys. x ∷ ys) (append-nil xs)

append-assoc : (xs ys zs : List (List ℕ)) → (xs ++ ys) ++ zs ≡ xs ++ (ys ++ zs)
append-assoc [] ys zs = refl
append-assoc (x ∷ xs) ys zs = ap (λ rest. x ∷ rest) (append-assoc xs ys zs)

-- one name more, by whether it is there
record Adds (names : List (List ℕ)) (name : List ℕ) (more : List (List ℕ)) : Type 0 where
  extends : Extension names more
  holds : HasName more name
  only : (x : List ℕ) → HasName more x → HasName names x ⊎ (name ≡ x)

adds-if : (b : Bool) (names : List (List ℕ)) (name : List ℕ) → (b ≡ true → HasName names name)
    → Adds names name (if b then names else names ++ name ∷ [])
adds-if true names name there = record { extends = ([], append-nil names); holds = there refl; only = λ x h. inl h }
adds-if false names name there =
    record { extends = (name ∷ [], refl); holds = in-last names name; only = λ x h. in-either names name x h }

adds : (names : List (List ℕ)) (name : List ℕ) → Adds names name (with_name names name)
adds names name = adds-if (has_name names name) names name (has-HasName names name)

-- some names more
pub record AddsAll (names more all : List (List ℕ)) : Type 0 where
  pub extends : Extension names all
  pub holds : (x : List ℕ) → HasName more x → HasName all x
  pub only : (x : List ℕ) → HasName all x → HasName names x ⊎ HasName more x

in-extension : (names more : List (List ℕ)) → Extension names more → (x : List ℕ) → HasName names x → HasName more x
in-extension names more e x h = subst (λ (xs : List (List ℕ)). HasName xs x) (sym e.1) (in-left names e.0 x h)

further : (names : List (List ℕ)) (name : List ℕ) (one more all : List (List ℕ)) → Adds names name one
    → AddsAll one more all
    → AddsAll names (name ∷ more) all
further names name one more all first rest =
    record {
      extends = (
        first.extends.0 ++ rest.extends.0,
        rest.extends.1 ∙ ap (λ xs. xs ++ rest.extends.0) first.extends.1
            ∙ append-assoc names first.extends.0 rest.extends.0,
      );
      holds = λ x h. held x h;
      only = λ x h. known x (rest.only x h);
    }
  where
    held : (x : List ℕ) → HasName (name ∷ more) x → HasName all x
    held x (inl e) = in-extension one all rest.extends x (subst (λ (y : List ℕ). HasName one y) e first.holds)
    held x (inr h) = rest.holds x h

    known : (x : List ℕ) → HasName one x ⊎ HasName more x → HasName names x ⊎ HasName (name ∷ more) x
    known x (inl h) = elim (first.only x h) [ inl there ↦ inl there | inr e ↦ inr (inl e) ]
    known x (inr h) = inr (inr h)

pub adds_all : (names more : List (List ℕ)) → AddsAll names more (with_names names more)
adds_all names [] = record { extends = ([], append-nil names); holds = λ x h. absurd h; only = λ x h. inl h }
adds_all names (name ∷ more) =
    further names name (with_name names name) more (with_names (with_name names name) more) (adds names name)
    (adds_all (with_name names name) more)

-- ---- adding lists of names

pub names-append : (names xs ys : List (List ℕ)) → with_names names (xs ++ ys) ≡ with_names (with_names names xs) ys
names-append names [] ys = refl
names-append names (x ∷ xs) ys = names-append (with_name names x) xs ys

still-there : (names more : List (List ℕ)) (x : List ℕ) → has_name more x ≡ true → has_name (with_names names more) x
    ≡ true
still-there names more x h = HasName-has (with_names names more) x
    ((adds_all names more).holds x (has-HasName more x h))

one-more : (names ys : List (List ℕ)) (x : List ℕ) (there : Bool) → has_name ys x ≡ there
    → with_names names (with_name ys x) ≡ with_name (with_names names ys) x
one-more names ys x true e = rw (e, still-there names ys x e) refl
one-more names ys x false e = rw e (names-append names ys (x ∷ []))

once-from : (names ys xs : List (List ℕ)) → with_names names (with_names ys xs) ≡ with_names (with_names names ys) xs
once-from names ys [] = refl
once-from names ys (x ∷ xs) =
    once-from names (with_name ys x) xs ∙ ap (λ (zs : List (List ℕ)). with_names zs xs)
    (one-more names ys x (has_name ys x) refl)

-- names that stand there once are as good as all of them
pub once : (names xs : List (List ℕ)) → with_names names (with_names [] xs) ≡ with_names names xs
once names xs = once-from names [] xs

-- ---- the parents of a class of the program, each once

pub parents-at : (program : List ClassListing) (name : List ℕ) (number : Option ℕ)
    → option_and_then (slice_get program) number ≡ listed program name
    → option_and_then (slice_get (all_parents program)) number ≡ option_map parents_once (listed program name)
parents-at program name None is = ap (option_map parents_once) is
parents-at program name (Some n) is = slice_get-map parents_once program n ∙ ap (option_map parents_once) is

once-listed : (names parents : List (List ℕ)) (found own : Option ClassListing)
    → Some parents ≡ option_map parents_once found
    → with_names names parents ≡ with_names names (parents_in (or_else found own))
once-listed names parents None own e = cc
once-listed names parents (Some c) own e =
    let is : parents ≡ parents_once c = cc in ap (with_names names) is ∙ once names (parents_of c)

pub parents_named-once : (program : List ClassListing) (name : List ℕ) (names parents : List (List ℕ))
    → Some parents ≡ option_map parents_once (listed program name)
    → with_names names parents ≡ with_names names (parents_named program name)
parents_named-once program name names parents e =
    once-listed names parents (listed program name) (builtin name) e

pub none-once : (found : Option ClassListing) → None ≡ option_map parents_once found → None ≡ found
none-once None e = refl
none-once (Some c) e = cc

-- ---- the parents of one of the machine's own classes

pub parents_named-builtin : (program : List ClassListing) (name superclass : List ℕ) → None ≡ listed program name
    → Some superclass ≡ option_map (λ (c : ClassListing). c.superclass) (builtin name) → superclass ∷ []
    ≡ parents_named program name
parents_named-builtin program name superclass none found = rw (← none, parents_in-builtin name, ← found)

-- ---- what is reached so far

abbrev IsAboveOne : List ClassListing → List (List ℕ) → List ℕ → Type 0
IsAboveOne program start x = (s : List ℕ) × HasName start s × Subclass program s x

-- each name is above one of the first ones, these are there, and the parents of as many names as were passed
pub record IsReached (program : List ClassListing) (start names : List (List ℕ)) (next : ℕ) : Type 0 where
  pub sound : (x : List ℕ) → HasName names x → IsAboveOne program start x
  pub kept : (x : List ℕ) → HasName start x → HasName names x
  pub closed : (x y : List ℕ) → HasName (take next names) x → HasName (parents_named program x) y → HasName names y

pub reached-first : (program : List ClassListing) (start : List (List ℕ)) → IsReached program start start 0
reached-first program start =
    record { sound = λ x h. (x, h, same); kept = λ x h. h; closed = λ x y h p. absurd h }

in-take : (names extra : List (List ℕ)) (next : ℕ) (name x : List ℕ) → slice_get names next ≡ Some name
    → HasName (take (suc next) (names ++ extra)) x
    → HasName (take next names) x ⊎ (name ≡ x)
in-take [] extra next name x e h = cc
in-take (y ∷ ys) extra zero name x e (inl is) = inr cc
in-take (y ∷ ys) extra zero name x e (inr h) = absurd h
in-take (y ∷ ys) extra (suc n) name x e (inl is) = inl (inl is)
in-take (y ∷ ys) extra (suc n) name x e (inr h) = elim (in-take ys extra n name x e h) [
  | inl there ↦ inl (inr there)
  | inr is ↦ inr is
]

in-slice : (names : List (List ℕ)) (next : ℕ) (name : List ℕ) → slice_get names next ≡ Some name → HasName names name
in-slice [] next name e = cc
in-slice (y ∷ ys) zero name e = inl cc
in-slice (y ∷ ys) (suc n) name e = inr (in-slice ys n name e)

pub reached-next : (program : List ClassListing) (start names : List (List ℕ)) (next : ℕ) (name : List ℕ)
    → IsReached program start names next
    → slice_get names next ≡ Some name
    → IsReached program start (with_names names (parents_named program name)) (next + 1)
reached-next program start names next name so e =
    let one_more : suc next ≡ next + 1 = omega arith in
    subst (λ (n : ℕ). IsReached program start (with_names names (parents_named program name)) n) one_more
    (record {
      sound = λ x h. above x (more.only x h);
      kept = λ x h. in-extension names all more.extends x (so.kept x h);
      closed = λ x y h p. parents x y h p;
    })
  where
    all : List (List ℕ)
    all = with_names names (parents_named program name)

    more : AddsAll names (parents_named program name) all
    more = adds_all names (parents_named program name)

    above : (x : List ℕ) → HasName names x ⊎ HasName (parents_named program name) x → IsAboveOne program start x
    above x (inl h) = so.sound x h
    above x (inr h) =
        let one : IsAboveOne program start name = so.sound name (in-slice names next name e) in
        (one.0, one.1, through name one.2 (parent h))

    passed : (x y : List ℕ) → HasName (take next names) x ⊎ (name ≡ x) → HasName (parents_named program x) y
        → HasName all y
    passed x y (inl h) p = in-extension names all more.extends y (so.closed x y h p)
    passed x y (inr is) p = more.holds y (subst (λ (n : List ℕ). HasName (parents_named program n) y) (sym is) p)

    parents : (x y : List ℕ) → HasName (take (suc next) all) x → HasName (parents_named program x) y → HasName all y
    parents x y h p =
        passed x y
        (in-take names more.extends.0 next name x e (subst (λ (xs : List (List ℕ)). HasName (take (suc next) xs) x)
        more.extends.1 h)) p

-- ---- what is reached in the end

take-all : (names : List (List ℕ)) (next : ℕ) → length names ≤ next → take next names ≡ names
take-all [] zero h = refl
take-all [] (suc n) h = refl
take-all (x ∷ xs) zero h = absurd (omega arith)
take-all (x ∷ xs) (suc n) h = ap (λ ys. x ∷ ys) (take-all xs n (omega arith))

within-reached : (steps : ℕ) (program : List ClassListing) (names : List (List ℕ)) (name above : List ℕ)
    → ((x y : List ℕ) → HasName names x → HasName (parents_named program x) y → HasName names y)
    → HasName names name → is_within steps program name above ≡ true → HasName names above
unfolding is_within
within-reached zero program names name above closed there h =
    subst (λ (x : List ℕ). HasName names x) ((bytes_eq-Decides name above).0 h) there
within-reached (suc n) program names name above closed there h =
    elim (or-cases (bytes_eq name above) (list_any (λ p. is_within n program p above) (parents_named program name)) h) [
      | inl here ↦ subst (λ (x : List ℕ). HasName names x) ((bytes_eq-Decides name above).0 here) there
      | inr higher ↦
          let found : (p : List ℕ) × HasName (parents_named program name) p × (is_within n program p above ≡ true) =
          any-found (λ p. is_within n program p above) (parents_named program name) higher in
          within-reached n program names found.0 above closed (closed name found.0 there found.1) found.2
    ]

pub same-bool : (a b : Bool) → (a ≡ true → b ≡ true) → (b ≡ true → a ≡ true) → a ≡ b
same-bool true b to back = sym (to refl)
same-bool false true to back = back refl
same-bool false false to back = refl

pub reached-all : (program : List ClassListing) (start names : List (List ℕ)) (next : ℕ)
    → IsReached program start names next → length names ≤ next
    → (above : List ℕ) → has_name names above ≡ is_one_below program start above
reached-all program start names next so few above =
    same-bool (has_name names above) (is_one_below program start above) to back
  where
    closed : (x y : List ℕ) → HasName names x → HasName (parents_named program x) y → HasName names y
    closed x y h p = so.closed x y (subst (λ (xs : List (List ℕ)). HasName xs x) (sym (take-all names next few)) h) p

    to : has_name names above ≡ true → is_one_below program start above ≡ true
    to h =
        let one : IsAboveOne program start above = so.sound above (has-HasName names above h) in
        any-has (λ name. is_subclass program name above) start one.0 one.1 (Subclass-is_subclass program one.0 above
        one.2)

    back : is_one_below program start above ≡ true → has_name names above ≡ true
    back h =
        let found : (s : List ℕ) × HasName start s
        × (is_subclass program s above ≡ true) = any-found (λ name. is_subclass program name above) start h in
        HasName-has names above (within-reached (length program + 23) program names found.0 above closed
        (so.kept found.0 found.1) found.2)

-- ---- what begins with one name, and with the parents of a class

or-false : (b : Bool) → (b || false) ≡ b
or-false true = refl
or-false false = refl

pub one_below : (program : List ClassListing) (name above : List ℕ) → is_one_below program (with_name [] name) above
    ≡ is_subclass program name above
one_below program name above = or-false (is_subclass program name above)

pub parents_below : (program : List ClassListing) (parents : List (List ℕ)) (above : List ℕ)
    → is_one_below program (with_names [] parents) above ≡ is_one_below program parents above
parents_below program parents above =
    same-bool (is_one_below program (with_names [] parents) above) (is_one_below program parents above)
    (λ h. among (any-found below (with_names [] parents) h)) (λ h. within (any-found below parents h))
  where
    below : List ℕ → Bool
    below name = is_subclass program name above

    more : AddsAll [] parents (with_names [] parents)
    more = adds_all [] parents

    either : (x : List ℕ) → HasName [] x ⊎ HasName parents x → HasName parents x
    either x (inl h) = absurd h
    either x (inr h) = h

    among : (x : List ℕ) × HasName (with_names [] parents) x × (below x ≡ true) → list_any below parents ≡ true
    among found = any-has below parents found.0 (either found.0 (more.only found.0 found.1)) found.2

    within : (x : List ℕ) × HasName parents x × (below x ≡ true) → list_any below (with_names [] parents) ≡ true
    within found = any-has below (with_names [] parents) found.0 (more.holds found.0 found.1) found.2
