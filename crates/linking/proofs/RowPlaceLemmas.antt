-- Where the method of a row stands in a program that has no class and no method twice: `place_of` finds the place that
-- the row tells.
use Rattle.std.proofs.Common.{◌≡◌, ℕ, zero, suc, ◌+◌, ◌<◌, ◌≤◌, List, [], ◌∷◌, ◌++◌, length, slice_get, position, Bool}
use Rattle.std.proofs.Common.{true, false, cond, ◌||◌, not, nat_lt, Option, Some, None, unwrap_or, refl, sym, ap, subst}
use Rattle.std.proofs.Common.{◌∙◌, arith}
use Rattle.std.proofs.lemmas.Bool.{lt-ltb, ltb-false}
use Rattle.std.proofs.lemmas.List.Sums.{sum_by-cons}
use Rattle.std.proofs.lemmas.Option.{slice_get_within}
use Rattle.std.proofs.lemmas.Slice.Eq.{bytes_eq-Decides}
use Rattle.std.specs.List.{count_by, find, list_any, position_or_len}
use Rattle.std.specs.Option.{option_and_then, option_map}
use Rattle.std.specs.Str.{bytes_eq}
use Rattle.model.specs.declared.listings.Method.{Method}
use Rattle.model.specs.declared.places.MethodPlace.{MethodPlace}
use Rattle.model.specs.ClassListings.{ClassListing}
use Rattle.model.specs.Accepted.MembersTwice.{has_field_twice, has_member_twice, has_method_twice, is_same_method}
use Rattle.model.specs.Accepted.Superclasses.{is_class_twice}
use Rattle.model.specs.Classes.Builtin.{builtin_classes}
use Rattle.model.specs.Classes.MethodPlaces.{is_method, place_in, place_of}
use Rattle.model.specs.Classes.Named.{is_named}
use Rattle.model.specs.Classes.Search.{Declared}
use Rattle.linking.specs.declared.selection_rows.SelectionRow.{SelectionRow as RowOfNumbers}
use Rattle.linking.specs.Selections.{declared_at, method_in}

-- ---- the place of what passes a test alone

count-cons : {A : Type 0} (p : A → Bool) (y : A) (ys : List A) → count_by p (y ∷ ys) ≡ cond (p y) 1 0 + count_by p ys
count-cons {A = A} p y ys = sum_by-cons (λ (x : A). cond (p x) 1 0) y ys

one-more : (b : Bool) (n : ℕ) → b ≡ true → 1 ≤ cond b 1 0 + n
one-more true n h = omega arith
one-more false n h = cc

some-counted : {A : Type 0} (p : A → Bool) (xs : List A) (k : ℕ) (x : A) → slice_get xs k ≡ Some x → p x ≡ true
    → 1 ≤ count_by p xs
some-counted p [] k x at h = cc
some-counted {A = A} p (y ∷ ys) zero x at h =
    let here : p y ≡ true = ap (λ (o : Option A). p (unwrap_or o y)) at ∙ h in
    subst (λ (n : ℕ). 1 ≤ n) (sym (count-cons p y ys)) (one-more (p y) (count_by p ys) here)
some-counted p (y ∷ ys) (suc k) x at h =
    let rest : 1 ≤ count_by p ys = some-counted p ys k x at h in
    subst (λ (n : ℕ). 1 ≤ n) (sym (count-cons p y ys)) (further (cond (p y) 1 0) (count_by p ys) rest)
  where
    further : (m n : ℕ) → 1 ≤ n → 1 ≤ m + n
    further m n h = omega arith

first-place : {A : Type 0} (p : A → Bool) (xs : List A) (k : ℕ) (x : A) → slice_get xs k ≡ Some x → p x ≡ true
    → count_by p xs ≤ 1
    → position_or_len p xs ≡ k
first-place p [] k x at h few = cc
first-place {A = A} p (y ∷ ys) zero x at h few =
    let here : p y ≡ true = ap (λ (o : Option A). p (unwrap_or o y)) at ∙ h in rw here refl
first-place p (y ∷ ys) (suc k) x at h few =
    by (p y) (subst (λ (n : ℕ). n ≤ 1) (count-cons p y ys) few) (some-counted p ys k x at h) (first-place p ys k x at h)
  where
    by : (b : Bool) → cond b 1 0 + count_by p ys ≤ 1 → 1 ≤ count_by p ys
        → (count_by p ys ≤ 1 → position_or_len p ys ≡ k)
        → cond (not b) (1 + position_or_len p ys) 0 ≡ suc k
    by true few some rest = absurd (omega (arith, few, some))
    by false few some rest = let is : position_or_len p ys ≡ k = rest (omega (arith, few)) in omega (arith, is)

place-once : {A : Type 0} (p : A → Bool) (xs : List A) (k : ℕ) (x : A) → slice_get xs k ≡ Some x → p x ≡ true
    → nat_lt 1 (count_by p xs) ≡ false
    → position p xs ≡ Some k
place-once p xs k x at h once =
    ap (λ (n : ℕ). cond (nat_lt n (length xs)) (Some n) None)
    (first-place p xs k x at h (ltb-false 1 (count_by p xs) once))
    ∙ ap (λ (b : Bool). cond b (Some k) None) (lt-ltb k (length xs) (slice_get_within xs k x at))

none-passes : {A : Type 0} (p : A → Bool) (xs : List A) (k : ℕ) (x : A) → find p xs ≡ None → slice_get xs k ≡ Some x
    → p x ≡ false
none-passes p [] k x e at = cc
none-passes {A = A} p (y ∷ ys) zero x e at = ap (λ (o : Option A). p (unwrap_or o y)) (sym at) ∙ by (p y) e
  where
    by : (b : Bool) → cond b (Some y) (find p ys) ≡ None → b ≡ false
    by true e = cc
    by false e = refl
none-passes p (y ∷ ys) (suc k) x e at = none-passes p ys k x (by (p y) e) at
  where
    by : (b : Bool) → cond b (Some y) (find p ys) ≡ None → find p ys ≡ None
    by true e = cc
    by false e = e

or-left : (a b : Bool) → (a || b) ≡ false → a ≡ false
or-left true b h = cc
or-left false b h = refl

or-right : (a b : Bool) → (a || b) ≡ false → b ≡ false
or-right true b h = cc
or-right false b h = h

not-any : {A : Type 0} (p : A → Bool) (xs : List A) (k : ℕ) (x : A) → list_any p xs ≡ false → slice_get xs k ≡ Some x
    → p x ≡ false
not-any p [] k x e at = cc
not-any {A = A} p (y ∷ ys) zero x e at = ap (λ (o : Option A). p (unwrap_or o y)) (sym at)
    ∙ or-left (p y) (list_any p ys) e
not-any p (y ∷ ys) (suc k) x e at = not-any p ys k x (or-right (p y) (list_any p ys) e) at

-- ---- the place of a row's method

pub class-place : (program : List ClassListing) (k : ℕ) (c : ClassListing) → find (is_class_twice program) program
    ≡ None → slice_get program k ≡ Some c
    → position (is_named c.name) program ≡ Some k
unfolding is_class_twice
class-place program k c once at =
    place-once (is_named c.name) program k c at ((bytes_eq-Decides c.name c.name).1 refl)
    (none-passes (is_class_twice program) program k c once at)

pub method-place : (program : List ClassListing) (k n : ℕ) (c : ClassListing) (m : Method)
    → find has_member_twice program ≡ None → slice_get program k ≡ Some c
    → slice_get c.methods n ≡ Some m → position (is_method m.name m.descriptor) c.methods ≡ Some n
unfolding has_member_twice
method-place program k n c m once at here =
    let name : bytes_eq m.name m.name ≡ true = (bytes_eq-Decides m.name m.name).1 refl in
    let descriptor : bytes_eq m.descriptor m.descriptor ≡ true = (bytes_eq-Decides m.descriptor m.descriptor).1 refl in
    place-once (is_method m.name m.descriptor) c.methods n m here (rw (name, descriptor) refl)
    (not-any (λ (x : Method). nat_lt 1 (count_by (is_same_method x) c.methods)) c.methods n m
    (or-right (has_field_twice c.fields) (has_method_twice c.methods) (none-passes has_member_twice program k c once
    at)) here)

front : (xs ys : List ClassListing) (k : ℕ) → k < length xs → slice_get (xs ++ ys) k ≡ slice_get xs k
front [] ys k inside = absurd (omega arith)
front (x ∷ xs) ys zero inside = refl
front (x ∷ xs) ys (suc k) inside = front xs ys k (omega arith)

within : (xs : List ClassListing) (k : ℕ) → slice_get xs k ≡ None → k < length xs → ⊥
within [] k e inside = absurd (omega arith)
within (x ∷ xs) zero e inside = cc
within (x ∷ xs) (suc k) e inside = within xs k e (omega arith)

abbrev place_at : RowOfNumbers → MethodPlace
place_at r = record { class = r.class; method = r.method }

-- the machine's own methods, whose rows have greater class numbers, have no place in the program
pub row-place : (program : List ClassListing) (r : RowOfNumbers) (d : Declared Method)
    → find (is_class_twice program) program ≡ None
    → find has_member_twice program ≡ None → r.class < length program → declared_at program r ≡ Some d
    → place_of program d ≡ Some (place_at r)
row-place program r d classes members inside tells =
    by (slice_get program r.class) refl
    (sym (ap (option_and_then (method_in r.method)) (front program builtin_classes r.class inside)) ∙ tells)
  where
    placed : (c : ClassListing) (m : Method) → slice_get program r.class ≡ Some c → slice_get c.methods r.method
        ≡ Some m
        → place_of program (record { class = c.name; member = m }) ≡ Some (place_at r)
    placed c m at here =
        let methods : ClassListing → Option MethodPlace =
        λ (x : ClassListing). option_map (λ (n : ℕ). record { class = r.class; method = n })
        (position (is_method m.name m.descriptor) x.methods) in
        ap (option_and_then (place_in program (record { class = c.name; member = m })))
        (class-place program r.class c classes at)
        ∙ ap (option_and_then methods) at
        ∙ ap (option_map (λ (n : ℕ). record { class = r.class; method = n })) (method-place program r.class r.method c m
        members at here)

    method : (c : ClassListing) → slice_get program r.class ≡ Some c → (o : Option Method)
        → slice_get c.methods r.method ≡ o
        → option_map (λ (m : Method). record { class = c.name; member = m }) o ≡ Some d → place_of program d
        ≡ Some (place_at r)
    method c at None here e = cc
    method c at (Some m) here e =
        let none : Declared Method = record { class = c.name; member = m } in
        ap (place_of program) (sym (ap (λ (o : Option (Declared Method)). unwrap_or o none) e)) ∙ placed c m at here

    by : (o : Option ClassListing) → slice_get program r.class ≡ o
        → option_and_then (method_in r.method) (slice_get program r.class) ≡ Some d
        → place_of program d ≡ Some (place_at r)
    by None at e = absurd (within program r.class at inside)
    by (Some c) at e = method c at (slice_get c.methods r.method) refl
        (sym (ap (option_and_then (method_in r.method)) at) ∙ e)
