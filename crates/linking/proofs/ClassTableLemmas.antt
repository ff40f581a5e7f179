-- What the tables say of a class of a program, in the program's own words.
use Rattle.std.proofs.Common.{◌≡◌, ◌∙◌, ℕ, List, [], ◌∷◌, ◌++◌, map, slice_get, slice_index_or, zero, suc, Bool, false}
use Rattle.std.proofs.Common.{Option, Some, refl, ap, sym}
use Rattle.std.specs.Option.{option_and_then, option_map}
use Rattle.std.proofs.lemmas.Option.{slice_get-map}
use Rattle.model.specs.ClassListings.{ClassListing}
use Rattle.model.specs.Classes.Builtin.{builtin_classes}
use Rattle.model.specs.Classes.Layout.{layout}
use Rattle.model.specs.Classes.Types.{is_subtype}
use Rattle.linking.specs.ClassFacts.{ClassFacts}
use Rattle.resolve.specs.Numbers.{all_classes, class_names, class_number}
use Rattle.linking.specs.ClassTables.{class_facts, class_tables, is_below, is_subtype_in, superclass_in, word_of}
use Rattle.linking.specs.ClassTables.{words_if, words_in}

read : {A : Type 0} (f : Option ClassFacts → A) (program : List ClassListing) (n : ℕ) (class : Option ClassListing)
    → slice_get (all_classes program) n ≡ class
    → f (slice_get (class_tables program) n) ≡ f (option_map (class_facts program) class)
read f program n class at = ap f (slice_get-map (class_facts program) (all_classes program) n
    ∙ ap (option_map (class_facts program)) at)

pub superclass-number : (program : List ClassListing) (n : ℕ) (c : ClassListing) → slice_get (all_classes program) n
    ≡ Some c
    → superclass_in (class_tables program) n ≡ class_number program c.superclass
superclass-number program n c = read (option_and_then (λ (facts : ClassFacts). facts.superclass)) program n (Some c)

pub words-layout : (program : List ClassListing) (n : ℕ) (c : ClassListing) → slice_get (all_classes program) n ≡ Some c
    → words_in (class_tables program) n ≡ map (word_of program) (layout program c.name)
words-layout program n c = read words_if program n (Some c)

found-at : (f : List ℕ → Bool) (names : List (List ℕ)) (n : ℕ) (name : List ℕ) → slice_get names n ≡ Some name
    → slice_index_or (map f names) n false ≡ f name
found-at f [] n name at = cc
found-at f (x ∷ xs) zero name at = cc
found-at f (x ∷ xs) (suc n) name at = found-at f xs n name at

pub subtype-names : (program : List ClassListing) (n above : ℕ) (c : ClassListing) (name : List ℕ)
    → slice_get (all_classes program) n ≡ Some c
    → slice_get (class_names program) above ≡ Some name → is_subtype_in (class_tables program) n above
    ≡ is_subtype program c.name name
subtype-names program n above c name at other =
    read (is_below above) program n (Some c) at ∙ found-at (is_subtype program c.name) (class_names program) above name
    other

-- the class of a number has the name of the number
pub name-at : (program : List ClassListing) (n : ℕ) → slice_get (class_names program) n
    ≡ option_map (λ (c : ClassListing). c.name) (slice_get (all_classes program) n)
name-at program n =
    ap (λ names. slice_get names n) (sym (by program)) ∙ slice_get-map (λ (c : ClassListing). c.name)
    (all_classes program) n
  where
    by : (cs : List ClassListing) → map (λ (c : ClassListing). c.name) (cs ++ builtin_classes)
        ≡ map (λ (c : ClassListing). c.name) cs ++ map (λ (c : ClassListing). c.name) builtin_classes
    by [] = refl
    by (c ∷ cs) = ap (λ names. c.name ∷ names) (by cs)
