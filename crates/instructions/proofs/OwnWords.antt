-- Objects of the machine's own classes have no words.
use Rattle.std.proofs.Common.{◌≡◌, ℕ, zero, suc, ◌+◌, List, [], ◌∷◌, ◌++◌, Bool, true, false, length, flat_map, map}
use Rattle.std.proofs.Common.{slice_get, Option, Some, None, is_some, refl, sym, ap, subst, arith, ◌∙◌}
use Rattle.std.specs.List.{find, list_all}
use Rattle.model.specs.declared.listings.Field.{Field}
use Rattle.model.specs.ClassListings.{ClassListing}
use Rattle.model.specs.Accepted.BuiltinNames.{has_builtin_name}
use Rattle.model.specs.Classes.Builtin.{builtin_classes}
use Rattle.model.specs.Classes.Layout.{instance_fields_in, layout}
use Rattle.model.specs.Classes.Named.{builtin, class_named, is_named, listed, or_else}
use Rattle.model.specs.Classes.Search.{Declared, upwards, with_superclasses}
use Rattle.resolve.proofs.ListLemmas.{all-found, and-left, and-right}
use Rattle.resolve.specs.Hierarchies.{IsHierarchy}
use Rattle.resolve.specs.Numbers.{all_classes}
use Rattle.linking.specs.CanRun.{CanRun}
use Rattle.linking.specs.ClassTables.{class_tables, word_of, words_in}
use Rattle.linking.proofs.ClassTableLemmas.{words-layout}
use Rattle.linking.proofs.RunLemmas.{hierarchy as accepted_hierarchy, none_hides}
use Rattle.instructions.specs.ByNumbers.{IsStored}
use Rattle.instructions.specs.Heaps.{own_class}
use Rattle.instructions.proofs.ByNumberLemmas.{words-none}
use Rattle.instructions.proofs.ListPlaces.{Each, each-reverse}
use Rattle.instructions.proofs.Upwards.{above-own, unlisted}

abbrev fieldless : List Field → Bool
fieldless [] = true
fieldless (f ∷ fs) = false

own_fieldless : list_all (λ (c : ClassListing). fieldless c.fields) builtin_classes ≡ true
unfolding builtin_classes
own_fieldless = refl

own_there : list_all (λ (c : ClassListing). is_some (builtin c.name)) builtin_classes ≡ true
unfolding builtin_classes
own_there = refl

all-at : {A : Type 0} (p : A → Bool) (xs : List A) (n : ℕ) (x : A) → list_all p xs ≡ true → slice_get xs n ≡ Some x
    → p x ≡ true
all-at p [] n x h e = cc
all-at p (y ∷ ys) zero x h e = let same : y ≡ x = cc in ap p (sym same) ∙ and-left (p y) (list_all p ys) h
all-at p (y ∷ ys) (suc n) x h e = all-at p ys n x (and-right (p y) (list_all p ys) h) e

no-fields : (name : List ℕ) (c : ClassListing) → fieldless c.fields ≡ true → instance_fields_in name (Some c) ≡ []
no-fields name c e = by c.fields e
  where
    by : (fields : List Field) → fieldless fields ≡ true → instance_fields_in name (Some (record c { fields = fields }))
        ≡ []
    by [] e = refl
    by (f ∷ fs) e = cc

flat-none : {A B : Type 0} (f : A → List B) (xs : List A) → Each (λ x. f x ≡ []) xs → flat_map f xs ≡ []
flat-none f [] h = refl
flat-none f (x ∷ xs) h = ap (λ ys. ys ++ flat_map f xs) h.0 ∙ flat-none f xs h.1

get-following : {A : Type 0} (xs ys : List A) (n : ℕ) → slice_get (xs ++ ys) (length xs + n) ≡ slice_get ys n
get-following {A = A} xs ys n = following xs (length xs + n) refl
  where
    following : (xs : List A) (k : ℕ) → k ≡ length xs + n → slice_get (xs ++ ys) k ≡ slice_get ys n
    following [] k e = ap (slice_get ys) (omega (arith, e))
    following (x ∷ xs) zero e = absurd (omega (arith, e))
    following (x ∷ xs) (suc k) e = following xs k (omega (arith, e))

module _ (program : List ClassListing) (hierarchy : IsHierarchy program)
    (hides : find has_builtin_name program ≡ None) where
  abbrev fields_named : List ℕ → List (Declared Field)
  fields_named name = instance_fields_in name (class_named program name)

  abbrev HasNone : List ℕ → Type 0
  HasNone name = fields_named name ≡ []

  own-none : (name : List ℕ) (c : ClassListing) → listed program name ≡ None → builtin name ≡ Some c → HasNone name
  own-none name c none e =
      ap (λ o. instance_fields_in name (or_else o (builtin name))) none ∙ ap (instance_fields_in name) e
      ∙ no-fields name c (all-found (λ (c : ClassListing). fieldless c.fields) (is_named name) builtin_classes c
      own_fieldless e)

  nothing-above : (n : ℕ) (name : List ℕ) → listed program name ≡ None → Each HasNone (upwards n program name)
  unfolding upwards
  nothing-above zero name none = tt
  nothing-above (suc n) name none =
      subst (λ o. Each HasNone (with_superclasses name (λ above. upwards n program above) (or_else o (builtin name))))
      (sym none)
      (by (builtin name) refl (λ above none. nothing-above n above none))
    where
      by : (c : Option ClassListing) → builtin name ≡ c
          → ((above : List ℕ) → listed program above ≡ None → Each HasNone (upwards n program above))
          → Each HasNone (with_superclasses name (λ above. upwards n program above) c)
      by None e rest = tt
      by (Some c) e rest = (own-none name c none e, rest c.superclass (above-own program hierarchy hides name c e))

  own-layout : (name : List ℕ) → is_some (builtin name) ≡ true → layout program name ≡ []
  own-layout name own =
      flat-none fields_named _
      (each-reverse HasNone _ (nothing-above _ name (unlisted program hierarchy hides name own)))

  own-words : (place : ℕ) → words_in (class_tables program) (length program + place) ≡ []
  own-words place = by (slice_get (all_classes program) (length program + place)) refl
    where
      by : (c : Option ClassListing) → slice_get (all_classes program) (length program + place) ≡ c
          → words_in (class_tables program) (length program + place) ≡ []
      by None e = words-none program (length program + place) e
      by (Some c) e =
          let own : is_some (builtin c.name) ≡ true =
          all-at (λ (c : ClassListing). is_some (builtin c.name)) builtin_classes place c own_there
          (sym (get-following program builtin_classes place) ∙ e) in
          words-layout program (length program + place) c e ∙ ap (map (word_of program)) (own-layout c.name own)

-- an object of one is made with all its words
pub own-stored : (program : List ClassListing) → CanRun program → (place : ℕ)
    → IsStored program (own_class program place) []
own-stored program can place =
    sym (ap length (own-words program (accepted_hierarchy program can.accepted) (none_hides program can.accepted)
    place))
