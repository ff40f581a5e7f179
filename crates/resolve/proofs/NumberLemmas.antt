-- The numbers of classes: the first places of names.
use Rattle.std.proofs.Common.{◌≡◌, ℕ, zero, suc, ◌+◌, ◌<◌, ◌≤◌, List, [], ◌∷◌, ◌++◌, map, length, take, drop, get_or}
use Rattle.std.proofs.Common.{Bool, true, false, cond, not, nat_lt, Option, Some, None, IfSome, refl, sym, ap, arith}
use Rattle.std.proofs.Common.{◌∙◌, subst}
use Rattle.std.specs.List.{find, position}
use Rattle.std.specs.Map.{lookup}
use Rattle.std.specs.Option.{option_map}
use Rattle.std.specs.Str.{bytes_eq}
use Rattle.std.specs.List.{position_or_len}
use Rattle.std.proofs.lemmas.Bool.{lt-ltb, le-ltb, ltb-true, ltb-false}
use Rattle.std.proofs.lemmas.Map.Entries.{All-lookup}
use Rattle.std.proofs.lemmas.Slice.Eq.{bytes_eq-Decides}
use Rattle.model.specs.ClassListings.{ClassListing}
use Rattle.model.specs.Classes.Named.{is_named, listed, or_else}
use Rattle.resolve.specs.Indexed.{IsIndex}
use Rattle.model.specs.Classes.Builtin.{builtin_classes}
use Rattle.resolve.specs.Numbers.{name_of, class_number}
use Rattle.resolve.proofs.IndexLemmas.{turned}
use Rattle.resolve.proofs.NamedLemmas.{HasName, found}

-- ---- first places, item by item

further : (k n : ℕ) (c : Bool) → nat_lt k n ≡ c → cond (nat_lt (1 + k) (suc n)) (Some (1 + k)) None
    ≡ option_map suc (cond (nat_lt k n) (Some k) None)
further k n true e =
    let less : k < n = ltb-true k n e in
    let next : 1 + k ≡ suc k = omega arith in
    rw (e, lt-ltb (1 + k) (suc n) (omega arith)) (ap (λ (m : ℕ). Some m) next)
further k n false e = rw (e, le-ltb (1 + k) (suc n) (omega (arith, ltb-false k n e))) refl

pub position-cons : {A : Type 0} (p : A → Bool) (x : A) (xs : List A) → position p (x ∷ xs)
    ≡ cond (p x) (Some 0) (option_map suc (position p xs))
position-cons p x xs = by (p x) (position_or_len p xs) (length xs)
  where
    by : (b : Bool) (k n : ℕ) → cond (nat_lt (cond (not b) (1 + k) 0) (suc n)) (Some (cond (not b) (1 + k) 0)) None
        ≡ cond b (Some 0) (option_map suc (cond (nat_lt k n) (Some k) None))
    by true k n = rw (lt-ltb 0 (suc n) (omega arith)) refl
    by false k n = further k n (nat_lt k n) refl

abbrev pub place_after : ℕ → Option ℕ → Option ℕ
place_after n place = option_map (λ k. n + k) place

pub position-map : {A B : Type 0} (p : B → Bool) (f : A → B) (xs : List A) → position p (map f xs)
    ≡ position (λ x. p (f x)) xs
position-map p f [] = refl
position-map p f (x ∷ xs) =
    position-cons p (f x) (map f xs)
    ∙ ap (λ o. cond (p (f x)) (Some 0) (option_map suc o)) (position-map p f xs)
    ∙ sym (position-cons (λ x. p (f x)) x xs)

pub position-append : {A : Type 0} (p : A → Bool) (xs ys : List A)
    → position p (xs ++ ys) ≡ or_else (position p xs) (place_after (length xs) (position p ys))
position-append p [] ys = sym (none-following (position p ys))
  where
    none-following : (place : Option ℕ) → place_after 0 place ≡ place
    none-following None = refl
    none-following (Some k) = let e : 0 + k ≡ k = omega arith in ap (λ (m : ℕ). Some m) e
position-append p (x ∷ xs) ys =
    position-cons p x (xs ++ ys)
    ∙ ap (λ o. cond (p x) (Some 0) (option_map suc o)) (position-append p xs ys)
    ∙ by (p x) (position p xs) (position p ys)
    ∙ ap (λ o. or_else o (place_after (suc (length xs)) (position p ys))) (sym (position-cons p x xs))
  where
    by : (b : Bool) (one other : Option ℕ)
        → cond b (Some 0) (option_map suc (or_else one (place_after (length xs) other)))
        ≡ or_else (cond b (Some 0) (option_map suc one)) (place_after (suc (length xs)) other)
    by true one other = refl
    by false (Some k) other = refl
    by false None None = refl
    by false None (Some k) = let e : suc (length xs + k) ≡ suc (length xs) + k = omega arith in ap (λ (m : ℕ). Some m) e

-- ---- first places of the names of classes

none-place : (cs : List ClassListing) (name : List ℕ) → find (is_named name) cs ≡ None
    → position (bytes_eq name) (map name_of cs) ≡ None
none-place [] name h = refl
none-place (c ∷ cs) name h =
    position-cons (bytes_eq name) c.name (map name_of cs)
    ∙ ap (λ b. cond b (Some 0) (option_map suc (position (bytes_eq name) (map name_of cs)))) (turned name c.name)
    ∙ by (bytes_eq c.name name) h (none-place cs name)
  where
    by : (b : Bool) → cond b (Some c) (find (is_named name) cs) ≡ None
        → (find (is_named name) cs ≡ None → position (bytes_eq name) (map name_of cs) ≡ None)
        → cond b (Some 0) (option_map suc (position (bytes_eq name) (map name_of cs))) ≡ None
    by true h rest = cc
    by false h rest = ap (option_map suc) (rest h)

-- the place of the first class with its name
pub first-place : (cs : List ClassListing) (n : ℕ) (c : ClassListing) → find (is_named c.name) (take n cs) ≡ None
    → c ≡ get_or cs n c → n < length cs
    → position (bytes_eq c.name) (map name_of cs) ≡ Some n
first-place [] n c none is inside = absurd (omega arith)
first-place (x ∷ xs) zero c none is inside =
    position-cons (bytes_eq c.name) x.name (map name_of xs)
    ∙ ap (λ b. cond b (Some 0) (option_map suc (position (bytes_eq c.name) (map name_of xs))))
    ((bytes_eq-Decides c.name x.name).1 (ap name_of is))
first-place (x ∷ xs) (suc n) c none is inside =
    position-cons (bytes_eq c.name) x.name (map name_of xs)
    ∙ ap (λ b. cond b (Some 0) (option_map suc (position (bytes_eq c.name) (map name_of xs)))) (turned c.name x.name)
    ∙ by (bytes_eq x.name c.name) none (λ rest. first-place xs n c rest is (omega arith))
  where
    by : (b : Bool) → cond b (Some x) (find (is_named c.name) (take n xs)) ≡ None
        → (find (is_named c.name) (take n xs) ≡ None → position (bytes_eq c.name) (map name_of xs) ≡ Some n)
        → cond b (Some 0) (option_map suc (position (bytes_eq c.name) (map name_of xs))) ≡ Some (suc n)
    by true none rest = cc
    by false none rest = ap (option_map suc) (rest none)

-- ---- what an index tells of a name

module _ {K C : Type 0} (text : K → List ℕ) (class : C → ClassListing) (number : C → ℕ) (program : List ClassListing)
    (entries : List (K × C))
    (name : List ℕ) (index : IsIndex text class number program entries) where
  pub number-some : (c : C) → Some c ≡ lookup (λ k. bytes_eq name (text k)) entries → Some (number c)
      ≡ position (bytes_eq name) (map name_of program)
  number-some c at =
      let one : Some (class c) ≡ listed program name = ap (option_map class) at ∙ index.finds name in
      let named : (class c).name ≡ name = subst (λ (o : Option ClassListing). HasName name o) (sym one)
      (found name program) in
      let place : position (bytes_eq (class c).name) (map name_of program) ≡ Some (number c) =
      subst (λ (x : Option C). IfSome x (λ c. position (bytes_eq (class c).name) (map name_of program)
      ≡ Some (number c))) (sym at)
      (All-lookup (λ c. position (bytes_eq (class c).name) (map name_of program) ≡ Some (number c))
      (λ k. bytes_eq name (text k)) entries index.first) in
      sym place ∙ ap (λ (n : List ℕ). position (bytes_eq n) (map name_of program)) named

  pub number-none : None ≡ lookup (λ k. bytes_eq name (text k)) entries
      → None ≡ position (bytes_eq name) (map name_of program)
  number-none at = sym (none-place program name (sym (index.finds name) ∙ ap (option_map class) (sym at)))

-- ---- the place in what is left of a list

-- what is left of a list after so many items finds the whole's place
abbrev pub IsLeft : {A : Type 0} → (A → Bool) → List A → ℕ → Option ℕ → Type 0
IsLeft p xs n whole = place_after n (position p (drop n xs)) ≡ whole

module _ {A : Type 0} (p : A → Bool) where
  one-left : (xs : List A) (n : ℕ) (d : A) → n < length xs → position p (drop n xs)
      ≡ cond (p (get_or xs n d)) (Some 0) (option_map suc (position p (drop (suc n) xs)))
  one-left [] n d inside = absurd (omega arith)
  one-left (x ∷ xs) zero d inside = position-cons p x xs
  one-left (x ∷ xs) (suc n) d inside = one-left xs n d (omega arith)

  pub left-found : (xs : List A) (n : ℕ) (d : A) (whole : Option ℕ) → IsLeft p xs n whole → n < length xs
      → p (get_or xs n d) ≡ true → Some n ≡ whole
  left-found xs n d whole left inside here =
      let e : n ≡ n + 0 = omega arith in
      ap (λ (m : ℕ). Some m) e
      ∙ ap (λ b. place_after n (cond b (Some 0) (option_map suc (position p (drop (suc n) xs))))) (sym here)
      ∙ ap (place_after n) (sym (one-left xs n d inside)) ∙ left

  suc-following : (n : ℕ) (place : Option ℕ) → place_after (n + 1) place ≡ place_after n (option_map suc place)
  suc-following n None = refl
  suc-following n (Some k) = let e : n + 1 + k ≡ n + suc k = omega arith in ap (λ (m : ℕ). Some m) e

  pub left-next : (xs : List A) (n : ℕ) (d : A) (whole : Option ℕ) → IsLeft p xs n whole → n < length xs
      → p (get_or xs n d) ≡ false → IsLeft p xs (n + 1) whole
  left-next xs n d whole left inside other =
      let next : n + 1 ≡ suc n = omega arith in
      ap (λ (m : ℕ). place_after (n + 1) (position p (drop m xs))) next
      ∙ suc-following n (position p (drop (suc n) xs))
      ∙ ap (λ b. place_after n (cond b (Some 0) (option_map suc (position p (drop (suc n) xs))))) (sym other)
      ∙ ap (place_after n) (sym (one-left xs n d inside)) ∙ left

  drop-over : (xs : List A) (n : ℕ) → length xs ≤ n → drop n xs ≡ []
  drop-over [] zero h = refl
  drop-over [] (suc n) h = refl
  drop-over (x ∷ xs) zero h = absurd (omega arith)
  drop-over (x ∷ xs) (suc n) h = drop-over xs n (omega arith)

  pub left-none : (xs : List A) (n : ℕ) (whole : Option ℕ) → IsLeft p xs n whole → length xs ≤ n → None ≡ whole
  left-none xs n whole left over = ap (λ ys. place_after n (position p ys)) (sym (drop-over xs n over)) ∙ left

  none-following : (place : Option ℕ) → place_after 0 place ≡ place
  none-following None = refl
  none-following (Some k) = let e : 0 + k ≡ k = omega arith in ap (λ (m : ℕ). Some m) e

  pub left-all : (xs : List A) → IsLeft p xs 0 (position p xs)
  left-all xs = none-following (position p xs)

-- ---- the number of a class, of the program or of the machine itself

length-names : (cs : List ClassListing) → length (map name_of cs) ≡ length cs
length-names [] = refl
length-names (c ∷ cs) = ap suc (length-names cs)

pub number-there : (program : List ClassListing) (name : List ℕ) (n : ℕ)
    → Some n ≡ position (bytes_eq name) (map name_of program)
    → Some n ≡ class_number program name
number-there program name n found =
    ap (λ (o : Option ℕ). or_else o (place_after (length (map name_of program))
    (position (bytes_eq name) (map name_of builtin_classes)))) found
    ∙ sym (position-append (bytes_eq name) (map name_of program) (map name_of builtin_classes))

pub number-own : (program : List ClassListing) (name : List ℕ) → None ≡ position (bytes_eq name) (map name_of program)
    → place_after (length program) (position (bytes_eq name) (map name_of builtin_classes)) ≡ class_number program name
number-own program name none =
    ap (λ (n : ℕ). place_after n (position (bytes_eq name) (map name_of builtin_classes))) (sym (length-names program))
    ∙ ap (λ (o : Option ℕ). or_else o (place_after (length (map name_of program))
    (position (bytes_eq name) (map name_of builtin_classes)))) none
    ∙ sym (position-append (bytes_eq name) (map name_of program) (map name_of builtin_classes))
