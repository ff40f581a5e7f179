-- The rows of a class, as they are gathered from the class upwards, and the table that they make.
use Rattle.std.proofs.Common.{◌≡◌, ◌⊎◌, inl, inr, ℕ, zero, suc, ◌+◌, ◌-◌, ◌<◌, ◌≤◌, List, [], ◌∷◌, drop, slice_get}
use Rattle.std.proofs.Common.{Bool, true, false, cond, ◌&&◌, Option, Some, None, is_some, unwrap_or, Less, Equal}
use Rattle.std.proofs.Common.{Greater, Ordering, refl, sym, ap, subst, ◌∙◌, arith}
use Rattle.std.proofs.lemmas.Cmp.{nat_list_cmp_total}
use Rattle.std.proofs.lemmas.Map.Lookups.{exact_bytes}
use Rattle.std.proofs.lemmas.Slice.Eq.{bytes_eq-Decides}
use Rattle.std.specs.Cmp.Lexicographic.{slice_cmp}
use Rattle.std.specs.List.{find}
use Rattle.std.specs.Option.{option_and_then, option_map}
use Rattle.std.specs.Ordering.{is_eq, nat_cmp, ordering_reverse, ordering_then}
use Rattle.std.specs.Str.{bytes_eq}
use Rattle.model.specs.declared.listings.Method.{Method}
use Rattle.model.specs.ClassListings.{ClassListing}
use Rattle.model.specs.Classes.Builtin.{builtin_classes}
use Rattle.model.specs.Classes.Named.{builtin, class_named, is_named, listed, or_else}
use Rattle.model.specs.Classes.Search.{Declared, declared_in, first_declared, superclasses, upwards}
use Rattle.model.specs.Classes.Selection.{selected, virtual_of}
use Rattle.model.specs.Classes.Subclasses.{enough_steps}
use Rattle.resolve.specs.Numbers.{all_classes}
use Rattle.linking.specs.declared.selection_rows.SelectionRow.{SelectionRow as RowOfNumbers}
use Rattle.linking.specs.Selections.{pair_cmp, declared_at, first_row, is_pair, is_virtual, is_virtual_of, method_in}
use Rattle.linking.specs.Selections.{row_if}

-- ---- the first of two

pub or_else-none : {A : Type 0} (x : Option A) → or_else x None ≡ x
or_else-none None = refl
or_else-none (Some x) = refl

or_else-assoc : {A : Type 0} (x y z : Option A) → or_else (or_else x y) z ≡ or_else x (or_else y z)
or_else-assoc None y z = refl
or_else-assoc (Some x) y z = refl

map-or_else : {A B : Type 0} (f : A → B) (x y : Option A) → option_map f (or_else x y)
    ≡ or_else (option_map f x) (option_map f y)
map-or_else f None y = refl
map-or_else f (Some x) y = refl

-- ---- keys: equal as the map compares them, and as bytes

pub both : (a b : Bool) → (a && b) ≡ true → (a ≡ true) × (b ≡ true)
both true b h = (refl, h)
both false b h = cc

same-bool : (a b : Bool) → (a ≡ true → b ≡ true) → (b ≡ true → a ≡ true) → a ≡ b
same-bool true b to back = sym (to refl)
same-bool false true to back = back refl
same-bool false false to back = refl

itself : (x : List ℕ) → slice_cmp nat_cmp x x ≡ Equal
itself x = by (slice_cmp nat_cmp x x) (nat_list_cmp_total.antisymm x x)
  where
    by : (o : Ordering) → o ≡ ordering_reverse o → o ≡ Equal
    by Less e = cc
    by Equal e = refl
    by Greater e = cc

then-equal : (o p : Ordering) → is_eq (ordering_then o p) ≡ true → (o ≡ Equal) × (p ≡ Equal)
then-equal Less p h = cc
then-equal Greater p h = cc
then-equal Equal Less h = cc
then-equal Equal Greater h = cc
then-equal Equal Equal h = (refl, refl)

pub same-key : (name descriptor n d : List ℕ) → is_eq (pair_cmp name descriptor n d) ≡ is_pair n d name descriptor
same-key name descriptor n d = same-bool (is_eq (pair_cmp name descriptor n d)) (is_pair n d name descriptor) to back
  where
    to : is_eq (pair_cmp name descriptor n d) ≡ true → is_pair n d name descriptor ≡ true
    to h =
        let e = then-equal (slice_cmp nat_cmp name n) (slice_cmp nat_cmp descriptor d) h in
        let first : bytes_eq name n ≡ true = (bytes_eq-Decides name n).1 (exact_bytes name n e.0) in
        let second : bytes_eq descriptor d ≡ true = (bytes_eq-Decides descriptor d).1 (exact_bytes descriptor d e.1) in
        rw (first, second) refl

    back : is_pair n d name descriptor ≡ true → is_eq (pair_cmp name descriptor n d) ≡ true
    back h =
        let e = both (bytes_eq name n) (bytes_eq descriptor d) h in
        ap (λ (x : List ℕ). is_eq (pair_cmp name descriptor x d)) (sym ((bytes_eq-Decides name n).0 e.0))
        ∙ ap (λ (x : List ℕ). is_eq (pair_cmp name descriptor name x)) (sym ((bytes_eq-Decides descriptor d).0 e.1))
        ∙ ap (λ (o : Ordering). is_eq (ordering_then o (slice_cmp nat_cmp descriptor descriptor))) (itself name)
        ∙ ap is_eq (itself descriptor)

-- ---- a row more

abbrev pub Known : Type 0
Known = List ℕ → List ℕ → Option RowOfNumbers

known-there : (old : Known) (name descriptor n d : List ℕ) → is_pair n d name descriptor ≡ true
    → old n d ≡ old name descriptor
known-there old name descriptor n d h =
    let e = both (bytes_eq name n) (bytes_eq descriptor d) h in
    ap (λ (x : List ℕ). old x d) (sym ((bytes_eq-Decides name n).0 e.0))
    ∙ ap (old name) (sym ((bytes_eq-Decides descriptor d).0 e.1))

none-known : (o : Option RowOfNumbers) → is_some o ≡ false → o ≡ None
none-known None h = refl
none-known (Some x) h = cc

pub add-new : (old new : Known) (name descriptor : List ℕ) (row : RowOfNumbers) → is_some (old name descriptor) ≡ false
    → ((n d : List ℕ) → new n d ≡ cond (is_eq (pair_cmp name descriptor n d)) (Some row) (old n d))
    → (n d : List ℕ) → new n d ≡ or_else (old n d) (row_if row (is_pair n d name descriptor))
add-new old new name descriptor row absent updates n d =
    updates n d ∙ ap (λ (b : Bool). cond b (Some row) (old n d)) (same-key name descriptor n d)
    ∙ by (is_pair n d name descriptor) refl
  where
    by : (b : Bool) → is_pair n d name descriptor ≡ b → cond b (Some row) (old n d) ≡ or_else (old n d) (row_if row b)
    by true h = sym (ap (λ (o : Option RowOfNumbers). or_else o (Some row)) (known-there old name descriptor n d h
        ∙ none-known (old name descriptor) absent))
    by false h = sym (or_else-none (old n d))

-- ---- what the first row of a class tells

drop-at : (xs : List Method) (i : ℕ) (m : Method) (ms : List Method) → drop i xs ≡ m ∷ ms → (slice_get xs i ≡ Some m)
    × (drop (suc i) xs ≡ ms)
drop-at [] zero m ms e = cc
drop-at [] (suc i) m ms e = cc
drop-at (x ∷ xs) zero m ms e = (cc, cc)
drop-at (x ∷ xs) (suc i) m ms e = drop-at xs i m ms e

module _ (program : List ClassListing) (class : ℕ) (c : ClassListing) (at : slice_get (all_classes program) class
    ≡ Some c) (n d : List ℕ) where
  abbrev member : Method → Declared Method
  member m = record { class = c.name; member = m }

  tells : (i : ℕ) (m : Method) → slice_get c.methods i ≡ Some m
      → declared_at program (record { class = class; method = i }) ≡ Some (member m)
  tells i m here = ap (option_and_then (method_in i)) at ∙ ap (option_map member) here

  first-tells : (i : ℕ) (ms : List Method) → drop i c.methods ≡ ms
      → option_map (declared_at program) (first_row class i n d ms)
      ≡ option_map Some (option_map member (find (is_virtual_of n d) ms))
  first-tells i [] e = refl
  first-tells i (m ∷ ms) e =
      let split = drop-at c.methods i m ms e in
      by (is_virtual_of n d m) (tells i m split.0) (first-tells (suc i) ms split.1)
    where
      by : (b : Bool) → declared_at program (record { class = class; method = i }) ≡ Some (member m)
          → option_map (declared_at program) (first_row class (suc i) n d ms)
          ≡ option_map Some (option_map member (find (is_virtual_of n d) ms))
          → option_map (declared_at program) (or_else (row_if (record { class = class; method = i }) b)
          (first_row class (suc i) n d ms))
          ≡ option_map Some (option_map member (cond b (Some m) (find (is_virtual_of n d) ms)))
      by true this rest = ap Some this
      by false this rest = rest

  pub class-tells : option_map (declared_at program) (first_row class 0 n d c.methods)
      ≡ option_map Some (declared_in (virtual_of n d) c.name (Some c))
  class-tells = first-tells 0 c.methods refl

-- ---- what is found by a name has it

pub find-passes : {A : Type 0} (p : A → Bool) (xs : List A) (x : A) → find p xs ≡ Some x → p x ≡ true
find-passes p [] x e = cc
find-passes {A = A} p (y ∷ ys) x e = by (p y) refl (find-passes p ys x) e
  where
    by : (b : Bool) → p y ≡ b → (find p ys ≡ Some x → p x ≡ true) → cond b (Some y) (find p ys) ≡ Some x → p x ≡ true
    by true h later e = ap (λ (o : Option A). p (unwrap_or o y)) (sym e) ∙ h
    by false h later e = later e

class-name : (program : List ClassListing) (name : List ℕ) (c : ClassListing) → class_named program name ≡ Some c
    → c.name ≡ name
class-name program name c e = (bytes_eq-Decides c.name name).0 (by (listed program name) refl e)
  where
    by : (o : Option ClassListing) → listed program name ≡ o → or_else o (builtin name) ≡ Some c → is_named name c
        ≡ true
    by None h e = find-passes (is_named name) builtin_classes c e
    by (Some x) h e = find-passes (is_named name) program c (h ∙ e)

abbrev HasSignature : List ℕ → List ℕ → Declared Method → Type 0
HasSignature n d x = (x.member.name ≡ n) × (x.member.descriptor ≡ d)

signature-of : (n d : List ℕ) (m : Method) → is_virtual_of n d m ≡ true → (m.name ≡ n) × (m.descriptor ≡ d)
signature-of n d m h =
    let e = both (bytes_eq m.name n) (bytes_eq m.descriptor d) (both (is_pair n d m.name m.descriptor) (is_virtual m)
    h).0 in
    ((bytes_eq-Decides m.name n).0 e.0, (bytes_eq-Decides m.descriptor d).0 e.1)

declared-signature : (name n d : List ℕ) (o : Option ClassListing) (x : Declared Method)
    → declared_in (virtual_of n d) name o ≡ Some x → HasSignature n d x
declared-signature name n d None x e = cc
declared-signature name n d (Some c) x e = by (virtual_of n d c) refl e
  where
    by : (o : Option Method) → virtual_of n d c ≡ o → option_map (λ (m : Method). record { class = name; member = m }) o
        ≡ Some x → HasSignature n d x
    by None h e = cc
    by (Some m) h e =
        let is : record { class = name; member = m }
        ≡ x = ap (λ (y : Option (Declared Method)). unwrap_or y (record { class = name; member = m })) e in
        subst (HasSignature n d) is (signature-of n d m (find-passes (is_virtual_of n d) c.methods m h))

first-signature : (program : List ClassListing) (n d : List ℕ) (names : List (List ℕ)) (x : Declared Method)
    → first_declared program (virtual_of n d) names ≡ Some x → HasSignature n d x
first-signature program n d [] x e = cc
first-signature program n d (name ∷ names) x e =
    by (declared_in (virtual_of n d) name (class_named program name)) refl (first-signature program n d names x) e
  where
    by : (o : Option (Declared Method)) → declared_in (virtual_of n d) name (class_named program name) ≡ o
        → (first_declared program (virtual_of n d) names ≡ Some x → HasSignature n d x)
        → or_else o (first_declared program (virtual_of n d) names) ≡ Some x → HasSignature n d x
    by None h later e = later e
    by (Some y) h later e = declared-signature name n d (class_named program name) x (h ∙ e)

pub selected-signature : (program : List ClassListing) (class n d : List ℕ) (x : Declared Method)
    → selected program class n d ≡ Some x → HasSignature n d x
selected-signature program class n d x e = first-signature program n d (superclasses program class) x e

-- ---- from superclass to superclass

module _ (program : List ClassListing) (class : List ℕ) where
  abbrev first : List ℕ → List ℕ → List (List ℕ) → Option (Declared Method)
  first n d names = first_declared program (virtual_of n d) names

  -- the rows that are known, and those of the steps that are left, tell what is selected
  abbrev pub Gathers : ℕ → List ℕ → Known → Type 0
  Gathers left next known =
      (n d : List ℕ) → or_else (option_map (declared_at program) (known n d))
      (option_map Some (first n d (upwards left program next)))
      ≡ option_map Some (selected program class n d)

  -- the rows that are known tell what is selected
  abbrev pub Tells : Known → Type 0
  Tells known = (n d : List ℕ) → option_map (declared_at program) (known n d)
      ≡ option_map Some (selected program class n d)

  pub gathers-first : (known : Known) → ((n d : List ℕ) → known n d ≡ None)
      → Gathers (enough_steps program - 0) class known
  gathers-first known none n d =
      let all : enough_steps program - 0 ≡ enough_steps program = omega arith in
      ap (λ (o : Option RowOfNumbers). or_else (option_map (declared_at program) o)
      (option_map Some (first n d (upwards (enough_steps program - 0) program class)))) (none n d)
      ∙ ap (λ (k : ℕ). option_map Some (first n d (upwards k program class))) all

  nothing : (left : ℕ) (next : List ℕ) (n d : List ℕ) → (None ≡ class_named program next) ⊎ (left ≡ 0)
      → first n d (upwards left program next) ≡ None
  unfolding upwards
  nothing zero next n d h = refl
  nothing (suc left) next n d (inl missing) = rw (← missing) refl
  nothing (suc left) next n d (inr done) = absurd (omega arith)

  ends : (left : ℕ) (next : List ℕ) (known : Known) → Gathers left next known
      → (None ≡ class_named program next) ⊎ (left ≡ 0) → Tells known
  ends left next known before over n d =
      sym (or_else-none (option_map (declared_at program) (known n d)))
      ∙ sym (ap (λ (o : Option (Declared Method)). or_else (option_map (declared_at program) (known n d))
      (option_map Some o)) (nothing left next n d over))
      ∙ before n d

  pub gathers-missing : (steps passed : ℕ) (next : List ℕ) (known : Known) → Gathers (steps - passed) next known
      → None ≡ class_named program next → Tells known
  gathers-missing steps passed next known before missing = ends (steps - passed) next known before (inl missing)

  pub gathers-over : (steps passed : ℕ) (next : List ℕ) (known : Known) → Gathers (steps - passed) next known
      → steps ≤ passed → Tells known
  gathers-over steps passed next known before done = ends (steps - passed) next known before (inr (omega arith))

  on : (left more : ℕ) (next n d : List ℕ) (c : ClassListing) → left ≡ suc more → class_named program next ≡ Some c
      → first n d (upwards left program next) ≡ or_else (declared_in (virtual_of n d) next (Some c))
      (first n d (upwards more program c.superclass))
  unfolding upwards
  on left more next n d c e found = rw (e, found, found) refl

  pub gathers-next : (steps passed number : ℕ) (next above : List ℕ) (c : ClassListing) (known new : Known)
      → Gathers (steps - passed) next known
      → passed < steps → slice_get (all_classes program) number ≡ Some c → class_named program next ≡ Some c
      → above ≡ c.superclass
      → ((n d : List ℕ) → new n d ≡ or_else (known n d) (first_row number 0 n d c.methods))
      → Gathers (steps - (passed + 1)) above new
  gathers-next steps passed number next above c known new before inside at found is more n d =
      let left : ℕ = steps - (passed + 1) in
      let rest : Option (Option (Declared Method)) = option_map Some (first n d (upwards left program c.superclass)) in
      let here : Option (Declared Method) = declared_in (virtual_of n d) next (Some c) in
      let reported : Option (Option (Declared Method)) = option_map (declared_at program) (known n d) in
      ap (λ (name : List ℕ). or_else (option_map (declared_at program) (new n d))
      (option_map Some (first n d (upwards left program name)))) is
      ∙ ap (λ (o : Option RowOfNumbers). or_else (option_map (declared_at program) o) rest) (more n d)
      ∙ ap (λ (o : Option (Option (Declared Method))). or_else o rest) (map-or_else (declared_at program) (known n d)
      (first_row number 0 n d c.methods))
      ∙ ap (λ (o : Option (Option (Declared Method))). or_else (or_else reported o) rest)
      (class-tells program number c at n d
      ∙ ap (λ (name : List ℕ). option_map Some (declared_in (virtual_of n d) name (Some c)))
      (class-name program next c found))
      ∙ or_else-assoc reported (option_map Some here) rest
      ∙ ap (or_else reported) (sym (map-or_else Some here (first n d (upwards left program c.superclass))))
      ∙ ap (λ (o : Option (Declared Method)). or_else reported (option_map Some o))
      (sym (on (steps - passed) left next n d c (omega arith) found))
      ∙ before n d
