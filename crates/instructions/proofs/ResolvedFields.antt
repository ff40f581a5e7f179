-- The field to which a reference is resolved is one of the class that declares it, by the name and descriptor named.
use Rattle.std.proofs.Common.{◌≡◌, ℕ, suc, ◌+◌, length, List, [], ◌∷◌, Bool, true, false, ◌||◌, ◌&&◌, not, map, reverse}
use Rattle.std.proofs.Common.{Option, Some, None, refl, sym, ap, arith, ◌∙◌}
use Rattle.std.specs.List.{find, list_all, list_any}
use Rattle.std.specs.Option.{option_map}
use Rattle.std.specs.Str.{bytes_eq}
use Rattle.std.proofs.lemmas.Slice.Eq.{bytes_eq-Decides}
use Rattle.model.specs.declared.listings.Field.{Field}
use Rattle.model.specs.declared.names.Member.{Member}
use Rattle.model.specs.ClassListings.{ClassListing}
use Rattle.model.specs.Classes.Builtin.{builtin_classes}
use Rattle.model.specs.Classes.Flags.{is_static_field}
use Rattle.model.specs.Classes.Layout.{instance_fields_in, layout}
use Rattle.model.specs.Classes.Named.{builtin, class_named, is_named, listed, or_else}
use Rattle.model.specs.Classes.Resolution.{field_of, resolved_field}
use Rattle.model.specs.Classes.Search.{Declared, declared_in, field_order, first_declared, superclasses, upwards}
use Rattle.model.specs.Classes.Search.{with_superclasses}
use Rattle.model.specs.Words.{is_field, unwritten}
use Rattle.model.specs.Worlds.{FieldValue, opening_slot, opening_slots, opening_slots_of}
use Rattle.resolve.proofs.AcyclicLemmas.{named-listed}
use Rattle.resolve.proofs.ListLemmas.{all-found, found-any, found-passes}
use Rattle.resolve.proofs.NumberLemmas.{position-map}
use Rattle.instructions.proofs.ListPlaces.{HasFirst, any-flat, any-kept, any-reverse, first_of}

-- a class declares the field under the name and descriptor referred to
pub record IsResolved (program : List ClassListing) (m : Member) (d : Declared Field) : Type 0 where
  pub class : ClassListing
  pub named : class_named program d.class ≡ Some class
  pub found : field_of m.name m.descriptor class ≡ Some d.member

one : {A : Type 0} (x y : A) → Some x ≡ Some y → x ≡ y
one x y e = cc

module _ (program : List ClassListing) (m : Member) where
  in_class : (name : List ℕ) (c : Option ClassListing) (d : Declared Field) → class_named program name ≡ c
      → declared_in (field_of m.name m.descriptor) name c ≡ Some d → IsResolved program m d
  in_class name None d is e = cc
  in_class name (Some c) d is e = by (field_of m.name m.descriptor c) refl e
    where
      by : (f : Option Field) → field_of m.name m.descriptor c ≡ f
          → option_map (λ f. record { class = name; member = f }) f ≡ Some d
          → IsResolved program m d
      by None h k = cc
      by (Some f) h k =
          let same : record { class = name; member = f } ≡ d = one _ d k in
          record {
            class = c;
            named = ap (λ (d : Declared Field). class_named program d.class) (sym same) ∙ is;
            found = h ∙ ap (λ (d : Declared Field). Some d.member) same;
          }

  in_order : (names : List (List ℕ)) (d : Declared Field)
      → first_declared program (field_of m.name m.descriptor) names ≡ Some d → IsResolved program m d
  in_order [] d e = cc
  in_order (name ∷ names) d e =
      by (declared_in (field_of m.name m.descriptor) name (class_named program name)) refl e (λ k. in_order names d k)
    where
      by : (o : Option (Declared Field))
          → declared_in (field_of m.name m.descriptor) name (class_named program name) ≡ o
          → or_else o (first_declared program (field_of m.name m.descriptor) names) ≡ Some d
          → (first_declared program (field_of m.name m.descriptor) names ≡ Some d → IsResolved program m d)
          → IsResolved program m d
      by None h k rest = rest k
      by (Some found) h k rest = in_class name (class_named program name) d refl (h ∙ k)

  pub resolved-is : (d : Declared Field) → resolved_field program m ≡ Some d → IsResolved program m d
  resolved-is d e = in_order (field_order program m.class) d e

both : (a b : Bool) → (a && b) ≡ true → (a ≡ true) × (b ≡ true)
both true b e = (refl, e)
both false b e = cc

and-true : (a b : Bool) → a ≡ true → b ≡ true → (a && b) ≡ true
and-true true b p q = q
and-true false b p q = p

bytes-same : (xs : List ℕ) → bytes_eq xs xs ≡ true
bytes-same xs = (bytes_eq-Decides xs xs).1 refl

-- a field with the key of another has its descriptor
pub descriptor-same : (d : Declared Field) (f : FieldValue) → is_field d f ≡ true → f.descriptor ≡ d.member.descriptor
descriptor-same d f e =
    (bytes_eq-Decides f.descriptor d.member.descriptor).0
    (both (bytes_eq f.class d.class && bytes_eq f.name d.member.name) (bytes_eq f.descriptor d.member.descriptor) e).1

pub class-same : (d : Declared Field) (f : FieldValue) → is_field d f ≡ true → f.class ≡ d.class
class-same d f e =
    (bytes_eq-Decides f.class d.class).0
    (both (bytes_eq f.class d.class) (bytes_eq f.name d.member.name)
    (both (bytes_eq f.class d.class && bytes_eq f.name d.member.name)
    (bytes_eq f.descriptor d.member.descriptor) e).0).0

has_key : (d : Declared Field) (f : FieldValue) → f.class ≡ d.class → f.name ≡ d.member.name
    → f.descriptor ≡ d.member.descriptor → is_field d f ≡ true
has_key d f c n t =
    and-true (bytes_eq f.class d.class && bytes_eq f.name d.member.name) (bytes_eq f.descriptor d.member.descriptor)
    (and-true (bytes_eq f.class d.class) (bytes_eq f.name d.member.name) ((bytes_eq-Decides f.class d.class).1 c)
    ((bytes_eq-Decides f.name d.member.name).1 n))
    ((bytes_eq-Decides f.descriptor d.member.descriptor).1 t)

module _ (program : List ClassListing) (m : Member) (d : Declared Field) (resolved : IsResolved program m d) where
  abbrev wanted : Field → Bool
  wanted f = bytes_eq f.name m.name && bytes_eq f.descriptor m.descriptor

  -- its descriptor is the one referred to
  pub resolved-descriptor : d.member.descriptor ≡ m.descriptor
  resolved-descriptor =
      (bytes_eq-Decides d.member.descriptor m.descriptor).0
      (both (bytes_eq d.member.name m.name) (bytes_eq d.member.descriptor m.descriptor)
      (found-passes wanted resolved.class.fields d.member resolved.found)).1

  -- ---- a field of objects

  own_found : not (is_static_field d.member) ≡ true
      → list_any (λ (f : Declared Field). is_field d (unwritten f))
      (instance_fields_in d.class (class_named program d.class)) ≡ true
  own_found instance =
      ap (λ c. list_any (λ (f : Declared Field). is_field d (unwritten f))
      (instance_fields_in d.class c)) resolved.named
      ∙ any-kept (λ (f : Declared Field). is_field d (unwritten f))
      (λ (f : Field). record { class = d.class; member = f })
      (λ (f : Field). not (is_static_field f)) resolved.class.fields
      ∙ found-any wanted (λ (f : Field). not (is_static_field f) && is_field d
      (unwritten (record { class = d.class; member = f })))
      resolved.class.fields d.member resolved.found
      (and-true (not (is_static_field d.member)) (is_field d (unwritten (record {
        class =
            d.class;
        member = d.member;
      }))) instance
      (has_key d (unwritten (record { class = d.class; member = d.member })) refl refl refl))

  or-left : (a b : Bool) → a ≡ true → (a || b) ≡ true
  or-left true b h = refl
  or-left false b h = cc

  upwards-on : (n : ℕ) → upwards (suc n) program d.class ≡ d.class ∷ upwards n program resolved.class.superclass
  unfolding upwards
  upwards-on n = ap (λ c. with_superclasses d.class (λ above. upwards n program above) c) resolved.named

  superclasses-on : superclasses program d.class
      ≡ d.class ∷ upwards (length program + 22) program resolved.class.superclass
  superclasses-on =
      let e : length program + 23 ≡ suc (length program + 22) = omega arith in
      ap (λ n. upwards n program d.class) e ∙ upwards-on (length program + 22)

  -- objects of its class have a word for it
  pub word-there : not (is_static_field d.member) ≡ true
      → HasFirst (is_field d) (map unwritten (layout program d.class))
  word-there instance =
      let first = first_of (λ (f : Declared Field). is_field d (unwritten f)) (layout program d.class)
      (any-flat (λ (f : Declared Field). is_field d (unwritten f))
      (λ name. instance_fields_in name (class_named program name)) (reverse (superclasses program d.class))
      ∙ any-reverse (λ name. list_any (λ (f : Declared Field). is_field d (unwritten f))
      (instance_fields_in name (class_named program name))) (superclasses program d.class)
      ∙ ap (list_any (λ name. list_any (λ (f : Declared Field). is_field d (unwritten f))
      (instance_fields_in name (class_named program name)))) superclasses-on
      ∙ or-left _ _ (own_found instance)) in
      record { place = first.place; is = position-map (is_field d) unwritten (layout program d.class) ∙ first.is }

  -- ---- a static field

  abbrev is_empty : List Field → Bool
  is_empty [] = true
  is_empty (f ∷ fs) = false

  own_empty : list_all (λ (c : ClassListing). is_empty c.fields) builtin_classes ≡ true
  unfolding builtin_classes
  own_empty = refl

  none_in : (fields : List Field) → is_empty fields ≡ true → find wanted fields ≡ Some d.member → ⊥
  none_in [] h e = cc
  none_in (f ∷ fs) h e = cc

  in_program : listed program d.class ≡ Some resolved.class
  in_program = by (listed program d.class) refl resolved.named
    where
      by : (c : Option ClassListing) → listed program d.class ≡ c → or_else c (builtin d.class) ≡ Some resolved.class
          → listed program d.class ≡ Some resolved.class
      by None e k =
          absurd (none_in resolved.class.fields
          (all-found (λ (c : ClassListing). is_empty c.fields)
          (is_named d.class) builtin_classes resolved.class own_empty k) resolved.found)
      by (Some c) e k = e ∙ k

  static_found : is_static_field d.member ≡ true → list_any (is_field d) (opening_slots_of resolved.class) ≡ true
  static_found static =
      any-kept (is_field d) (opening_slot resolved.class.name) is_static_field resolved.class.fields
      ∙ found-any wanted (λ (f : Field). is_static_field f && is_field d
      (opening_slot resolved.class.name f)) resolved.class.fields d.member
      resolved.found
      (and-true (is_static_field d.member) (is_field d (opening_slot resolved.class.name d.member)) static
      (has_key d (opening_slot resolved.class.name d.member)
      (named-listed program d.class resolved.class (sym in_program)) refl refl))

  -- the program has a slot for it
  pub slot-there : is_static_field d.member ≡ true → HasFirst (is_field d) (opening_slots program)
  slot-there static =
      first_of (is_field d) (opening_slots program)
      (any-flat (is_field d) opening_slots_of program
      ∙ found-any (is_named d.class)
      (λ (c : ClassListing). list_any (is_field d) (opening_slots_of c)) program resolved.class in_program
      (static_found static))
