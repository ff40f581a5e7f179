-- A method that was found by name: its number, what is known of it by its number, and its place in the program.
use Rattle.std.proofs.Common.{◌≡◌, ◌⊎◌, inl, inr, ℕ, zero, suc, ◌+◌, List, [], ◌∷◌, ◌++◌, length, Bool, true, false}
use Rattle.std.proofs.Common.{cond, ◌==◌, ◌&&◌, not, Option, Some, None, refl, sym, ap, arith, ◌∙◌}
use Rattle.std.specs.Prelude.{codes, is_none, is_some, slice_get}
use Rattle.std.specs.List.{find, list_all, position}
use Rattle.std.specs.Option.{option_and_then, option_map, option_zip}
use Rattle.std.specs.Str.{bytes_eq}
use Rattle.std.proofs.lemmas.Option.{slice_get_within}
use Rattle.std.proofs.lemmas.Slice.Eq.{bytes_eq-Decides}
use Rattle.model.specs.declared.builtins.Builtin.{Builtin}
use Rattle.model.specs.declared.listings.Method.{Method}
use Rattle.model.specs.declared.names.Member.{Member}
use Rattle.model.specs.declared.places.MethodPlace.{MethodPlace}
use Rattle.model.specs.Accepted.BuiltinNames.{has_builtin_name}
use Rattle.model.specs.Accepted.MembersTwice.{has_member_twice}
use Rattle.model.specs.ClassListings.{ClassListing}
use Rattle.model.specs.Classes.Builtin.{builtin_classes}
use Rattle.model.specs.Classes.Flags.{is_static}
use Rattle.model.specs.Classes.MethodPlaces.{is_method, member_of, place_of}
use Rattle.model.specs.Classes.Named.{builtin, class_named, or_else}
use Rattle.model.specs.Classes.Search.{Declared, declared_in, first_declared}
use Rattle.model.specs.Programs.{builtin_of, empty_initializer, is_member, is_own_initializer, method_at}
use Rattle.model.specs.Programs.{method_in as method_of_class}
use Rattle.resolve.specs.Numbers.{all_classes}
use Rattle.resolve.proofs.ClassAtNumber.{class_at_number}
use Rattle.resolve.proofs.ListLemmas.{found-passes}
use Rattle.linking.specs.declared.selection_rows.SelectionRow.{SelectionRow as RowOfNumbers}
use Rattle.linking.specs.MethodTables.{method_facts}
use Rattle.linking.specs.ResolvedOperations.{method_number, method_place}
use Rattle.linking.specs.Selections.{declared_at, method_in}
use Rattle.linking.proofs.ClassTableLemmas.{name-at}
use Rattle.linking.proofs.MethodTableLemmas.{own-facts, program-facts}
use Rattle.linking.proofs.RowPlaceLemmas.{method-place, row-place}
use Rattle.instructions.specs.OwnCalls.{is_printing}
use Rattle.instructions.specs.CallsByNumbers.{known_at}
use Rattle.instructions.proofs.AcceptedClasses.{Unrefused}
use Rattle.instructions.proofs.ByNumberLemmas.{HasNumber, number-names, number-of}
use Rattle.instructions.proofs.CodeResolves.{none-found-at}

one : {A : Type 0} (x y : A) → Some x ≡ Some y → x ≡ y
one x y e = cc

-- ---- found by a test on methods

pub record IsFound (program : List ClassListing) (test : Method → Bool) (d : Declared Method) : Type 0 where
  pub class : ClassListing
  pub named : class_named program d.class ≡ Some class
  pub found : find test class.methods ≡ Some d.member

module _ (program : List ClassListing) (test : Method → Bool) where
  in_class : (name : List ℕ) (c : Option ClassListing) (d : Declared Method) → class_named program name ≡ c
      → declared_in (λ (c : ClassListing). find test c.methods) name c ≡ Some d → IsFound program test d
  in_class name None d is e = cc
  in_class name (Some c) d is e = by (find test c.methods) refl e
    where
      by : (m : Option Method) → find test c.methods ≡ m
          → option_map (λ (m : Method). let found : Declared Method = record { class = name; member = m } in found) m
          ≡ Some d
          → IsFound program test d
      by None h k = cc
      by (Some m) h k =
          let same : record { class = name; member = m } ≡ d = one _ d k in
          record {
            class = c;
            named = ap (λ (d : Declared Method). class_named program d.class) (sym same) ∙ is;
            found = h ∙ ap (λ (d : Declared Method). Some d.member) same;
          }

  pub declared-found : (names : List (List ℕ)) (d : Declared Method)
      → first_declared program (λ (c : ClassListing). find test c.methods) names ≡ Some d → IsFound program test d
  declared-found [] d e = cc
  declared-found (name ∷ names) d e =
      by (declared_in (λ (c : ClassListing). find test c.methods) name (class_named program name)) refl e
      (λ k. declared-found names d k)
    where
      by : (o : Option (Declared Method))
          → declared_in (λ (c : ClassListing). find test c.methods) name (class_named program name) ≡ o
          → or_else o (first_declared program (λ (c : ClassListing). find test c.methods) names) ≡ Some d
          → (first_declared program (λ (c : ClassListing). find test c.methods) names ≡ Some d → IsFound program test d)
          → IsFound program test d
      by None h k rest = rest k
      by (Some found) h k rest = in_class name (class_named program name) d refl (h ∙ k)

  pub found-test : (d : Declared Method) → IsFound program test d → test d.member ≡ true
  found-test d is = found-passes test is.class.methods d.member is.found

-- ---- where it stands

pub record HasPlace {A : Type 0} (xs : List A) (x : A) : Type 0 where
  pub place : ℕ
  pub there : slice_get xs place ≡ Some x

found-place : {A : Type 0} (p : A → Bool) (xs : List A) (x : A) → find p xs ≡ Some x → HasPlace xs x
found-place p [] x e = cc
found-place p (y ∷ ys) x e = by (p y) e (λ k. found-place p ys x k) where
  by : (b : Bool) → cond b (Some y) (find p ys) ≡ Some x → (find p ys ≡ Some x → HasPlace ys x) → HasPlace (y ∷ ys) x
  by true k rest = record { place = 0; there = k }
  by false k rest = let later = rest k in record { place = suc later.place; there = later.there }

pub record IsAfter {A : Type 0} (xs ys : List A) (k : ℕ) (x : A) : Type 0 where
  pub place : ℕ
  pub is : k ≡ length xs + place
  pub there : slice_get ys place ≡ Some x

-- what stands in two lists stands in the first or after it
pub either-part : {A : Type 0} (xs ys : List A) (k : ℕ) (x : A) → slice_get (xs ++ ys) k ≡ Some x
    → (slice_get xs k ≡ Some x) ⊎ IsAfter xs ys k x
either-part [] ys k x e = inr (record { place = k; is = omega arith; there = e })
either-part (z ∷ zs) ys zero x e = inl e
either-part (z ∷ zs) ys (suc k) x e =
    elim (either-part zs ys k x e) [
      | inl there ↦ inl there
      | inr following ↦
          inr (let at = following.is in record {
            place = following.place;
            is = omega (arith, at);
            there = following.there;
          })
    ]

-- ---- the machine's own classes

pub own-members : find has_member_twice builtin_classes ≡ None
unfolding builtin_classes has_member_twice
own-members = refl

pub own-codes : list_all (λ (c : ClassListing). list_all (λ (m : Method). is_none m.code) c.methods) builtin_classes
    ≡ true
unfolding builtin_classes
own-codes = refl

abbrev same_bool : Bool → Bool → Bool
same_bool true b = b
same_bool false b = not b

abbrev is_static_as : Bool → Option Builtin → Bool
is_static_as static None = true
is_static_as static (Some own) = same_bool static (is_printing own)

abbrev member_in : ClassListing → Method → Member
member_in c m = record { class = c.name; name = m.name; descriptor = m.descriptor }

own-static : list_all
    (λ (c : ClassListing). list_all (λ (m : Method). is_static_as (is_static m) (builtin_of (member_in c m))) c.methods)
    builtin_classes
    ≡ true
unfolding builtin_classes
own-static = refl

and-both : (a b : Bool) → (a && b) ≡ true → (a ≡ true) × (b ≡ true)
and-both true b e = (refl, e)
and-both false b e = cc

pub all-at : {A : Type 0} (p : A → Bool) (xs : List A) (k : ℕ) (x : A) → list_all p xs ≡ true → slice_get xs k ≡ Some x
    → p x ≡ true
all-at p [] k x all e = cc
all-at p (y ∷ ys) zero x all e = let same : y ≡ x = cc in ap p (sym same) ∙ (and-both (p y) (list_all p ys) all).0
all-at p (y ∷ ys) (suc k) x all e = all-at p ys k x (and-both (p y) (list_all p ys) all).1 e

were-same : (a b : Bool) → same_bool a b ≡ true → a ≡ b
were-same true true e = refl
were-same true false e = cc
were-same false true e = cc
were-same false false e = refl

differ : (b : Bool) → b ≡ true → b ≡ false → ⊥
differ b p q = cc

refuted : (b : Bool) → (b ≡ true → ⊥) → b ≡ false
refuted true h = absurd (h refl)
refuted false h = refl

sys-own : is_some (builtin (codes "vm/Sys")) ≡ true
unfolding builtin_classes
sys-own = refl

thread-own : is_some (builtin (codes "java/lang/Thread")) ≡ true
unfolding builtin_classes
thread-own = refl

-- none of a class of the program is the machine's own
module _ (m : Member) (none : is_some (builtin m.class) ≡ false) where
  not-in : (class name descriptor : List ℕ) → is_some (builtin class) ≡ true → is_member m class name descriptor ≡ false
  not-in class name descriptor own =
      ap (λ b. b && bytes_eq m.name name && bytes_eq m.descriptor descriptor)
      (refuted (bytes_eq m.class class)
      (λ e. differ (is_some (builtin class)) own
      (ap (λ n. is_some (builtin n)) (sym ((bytes_eq-Decides m.class class).0 e)) ∙ none)))

  no-initializer : is_own_initializer m ≡ false
  no-initializer = ap (λ b. b && bytes_eq m.name (codes "<init>") && bytes_eq m.descriptor (codes "()V")) none

  not-own : builtin_of m ≡ None
  not-own =
      rw (
        not-in (codes "vm/Sys") (codes "print") (codes "(I)V") sys-own,
        not-in (codes "vm/Sys") (codes "printl") (codes "(J)V") sys-own,
        not-in (codes "vm/Sys") (codes "putc") (codes "(I)V") sys-own,
        not-in (codes "java/lang/Thread") (codes "run") (codes "()V") thread-own,
        not-in (codes "java/lang/Thread") (codes "start") (codes "()V") thread-own,
        not-in (codes "java/lang/Thread") (codes "join") (codes "()V") thread-own,
        no-initializer,
      ) refl

-- ---- a method that was found, in a program that no rule refuses

module _ (program : List ClassListing) (free : Unrefused program) (hides : find has_builtin_name program ≡ None)
    (test : Method → Bool) (d : Declared Method) (is : IsFound program test d) where
  pub class_of : HasNumber program d.class
  class_of = number-of program d.class is.class is.named

  pub class_there : slice_get (all_classes program) class_of.number ≡ Some is.class
  class_there =
      sym (ap (option_and_then (slice_get (all_classes program))) class_of.is) ∙ class_at_number program d.class
      ∙ is.named

  pub class_name_is : is.class.name ≡ d.class
  class_name_is =
      one _ d.class
      (sym (name-at program class_of.number ∙ ap (option_map (λ (c : ClassListing). c.name)) class_there)
      ∙ number-names program d.class class_of.number class_of.is)

  pub found_at : HasPlace is.class.methods d.member
  found_at = found-place test is.class.methods d.member is.found

  abbrev pub part : Type 0
  part = (slice_get program class_of.number ≡ Some is.class) ⊎ IsAfter program builtin_classes class_of.number is.class

  pub parts : (slice_get program class_of.number ≡ Some is.class) ⊎ IsAfter program builtin_classes class_of.number
      is.class
  parts = either-part program builtin_classes class_of.number is.class class_there

  abbrev pub where_it_is : MethodPlace
  where_it_is = record { class = class_of.number; method = found_at.place }

  alone : position (is_method d.member.name d.member.descriptor) is.class.methods ≡ Some found_at.place
  alone =
      elim parts [
        | inl at ↦ method-place program class_of.number found_at.place is.class d.member free.members at found_at.there
        | inr own ↦ method-place builtin_classes own.place found_at.place is.class d.member own-members own.there
            found_at.there
      ]

  pub numbered : method_number program d ≡ Some (class_of.number, found_at.place)
  numbered =
      ap (λ o. option_zip o (method_place program d)) class_of.is
      ∙ ap (λ o. option_zip (Some class_of.number)
      (option_and_then (λ (c : ClassListing). position (is_method d.member.name d.member.descriptor) c.methods) o))
      is.named
      ∙ ap (option_zip (Some class_of.number)) alone

  method_there : slice_get program class_of.number ≡ Some is.class → method_at program where_it_is ≡ Some d.member
  method_there at =
      ap (option_and_then (λ (c : ClassListing). method_of_class c found_at.place)) at
      ∙ ap (λ o. or_else o (cond (found_at.place == length is.class.methods) (Some empty_initializer) None))
      found_at.there

  pub known : known_at program where_it_is ≡ Some (method_facts program d.class d.member)
  known =
      elim parts [
        | inl at ↦
            program-facts program where_it_is is.class at
            ∙ ap (option_map (method_facts program is.class.name)) (method_there at)
            ∙ ap (λ name. Some (method_facts program name d.member)) class_name_is
        | inr own ↦
            ap (λ n. known_at program (record { class = n; method = found_at.place })) own.is
            ∙ own-facts program own.place found_at.place is.class own.there
            ∙ ap (option_map (method_facts program is.class.name)) found_at.there
            ∙ ap (λ name. Some (method_facts program name d.member)) class_name_is
      ]

  abbrev row : RowOfNumbers
  row = record { class = class_of.number; method = found_at.place }

  declared_there : declared_at program row ≡ Some d
  declared_there =
      ap (option_and_then (method_in found_at.place)) class_there
      ∙ ap (option_map (λ (m : Method). let found : Declared Method = record { class = is.class.name; member = m }
      in found)) found_at.there
      ∙ ap (λ name. Some (record { class = name; member = d.member })) class_name_is

  -- it stands there in the program, or has no code
  pub placed : (place_of program d ≡ Some where_it_is) ⊎ (d.member.code ≡ None)
  placed =
      elim parts [
        | inl at ↦
            inl (row-place program row d free.classes free.members (slice_get_within program class_of.number is.class
            at) declared_there)
        | inr own ↦
            inr (none-is d.member.code
            (all-at (λ (m : Method). is_none m.code) is.class.methods found_at.place d.member
            (all-at (λ (c : ClassListing). list_all (λ (m : Method). is_none m.code) c.methods) builtin_classes
            own.place is.class own-codes own.there)
            found_at.there))
      ]
    where
      none-is : {A : Type 0} (o : Option A) → is_none o ≡ true → o ≡ None
      none-is None e = refl
      none-is (Some x) e = cc

  -- one of the machine's own is static where it prints
  pub own_is_static : (own : Builtin) → builtin_of (member_of d) ≡ Some own → is_static d.member ≡ is_printing own
  unfolding has_builtin_name
  own_is_static own e =
      elim parts [
        | inl at ↦
            let plain : is_some (builtin d.class) ≡ false =
            ap (λ n. is_some (builtin n)) (sym class_name_is) ∙ none-found-at has_builtin_name program class_of.number
            is.class hides at in
            let none : builtin_of (member_of d) ≡ None = not-own (member_of d) plain in absurd (cc)
        | inr there ↦
            were-same (is_static d.member) (is_printing own)
            (ap (is_static_as (is_static d.member)) (sym e)
            ∙ ap (λ (n : List ℕ). is_static_as (is_static d.member)
            (builtin_of (record { class = n; name = d.member.name; descriptor = d.member.descriptor })))
            (sym class_name_is)
            ∙ all-at (λ (m : Method). is_static_as (is_static m) (builtin_of (member_in is.class m))) is.class.methods
            found_at.place d.member
            (all-at (λ (c : ClassListing). list_all (λ (m : Method). is_static_as (is_static m)
            (builtin_of (member_in c m))) c.methods) builtin_classes there.place is.class own-static there.there)
            found_at.there)
      ]
