-- The classes from one upwards that were never used, by names and by numbers.
use Rattle.std.proofs.Common.{◌≡◌, ℕ, zero, suc, ◌+◌, ◌≤◌, List, [], ◌∷◌, Bool, cond, length, map, slice_get}
use Rattle.std.proofs.Common.{slice_index_or, position, Option, Some, None, refl, sym, ap, ◌∙◌, arith}
use Rattle.std.specs.Option.{option_and_then, option_map}
use Rattle.std.specs.Str.{bytes_eq}
use Rattle.std.proofs.lemmas.List.{length-map}
use Rattle.model.specs.declared.turns.ClassState.{ClassState}
use Rattle.model.specs.declared.turns.ClassState.TheVariants.{Done}
use Rattle.model.specs.ClassListings.{ClassListing}
use Rattle.model.specs.Classes.Builtin.{builtin_classes}
use Rattle.model.specs.Classes.Named.{class_named, is_named, or_else, superclass_in}
use Rattle.model.specs.Classes.Search.{superclasses, upwards, with_superclasses}
use Rattle.model.specs.Classes.Subclasses.{enough_steps}
use Rattle.model.specs.Completions.{Completion, Site}
use Rattle.model.specs.Initialisation.{Chain, chain_from, chain_if, chain_of, chain_with}
use Rattle.model.specs.Table.Initialisation.{after_initialising, initialises_chain, states_in}
use Rattle.resolve.specs.Numbers.{all_classes, class_number, name_of}
use Rattle.resolve.proofs.ClassAtNumber.{class_at_number, number_inside}
use Rattle.resolve.proofs.IndexLemmas.{turned}
use Rattle.resolve.proofs.NumberLemmas.{place_after, position-append, position-cons, position-map}
use Rattle.linking.specs.ClassTables.{class_tables, superclass_in as superclass_number}
use Rattle.linking.proofs.ClassTableLemmas.{superclass-number}
use Rattle.instructions.proofs.ListPlaces.{item-at}
use Rattle.instructions.specs.InitialisingByNumbers.{chain_at, chain_upwards, initialises_class}

-- ---- numbers and places in the program

position-same : {A : Type 0} (p q : A → Bool) (xs : List A) → ((x : A) → p x ≡ q x) → position p xs ≡ position q xs
position-same p q [] same = refl
position-same p q (x ∷ xs) same =
    position-cons p x xs ∙ ap (λ b. cond b (Some 0) (option_map suc (position p xs))) (same x)
    ∙ ap (λ o. cond (q x) (Some 0) (option_map suc o)) (position-same p q xs same)
    ∙ sym (position-cons q x xs)

abbrev own_names : List (List ℕ)
own_names = map name_of builtin_classes

-- a number is a place in the program, or one after it
number-is : (program : List ClassListing) (name : List ℕ)
    → class_number program name
    ≡ or_else (position (is_named name) program) (place_after (length program) (position (bytes_eq name) own_names))
number-is program name =
    position-append (bytes_eq name) (map name_of program) own_names
    ∙ ap (λ o. or_else o (place_after (length (map name_of program)) (position (bytes_eq name) own_names)))
    (position-map (bytes_eq name) name_of program
    ∙ position-same (λ (c : ClassListing). bytes_eq name c.name) (is_named name) program (λ c. turned name c.name))
    ∙ ap (λ n. or_else (position (is_named name) program) (place_after n (position (bytes_eq name) own_names)))
    (length-map program name_of)

state-past : (states : List ClassState) (n : ℕ) → length states ≤ n → slice_index_or states n Done ≡ Done
state-past [] n past = refl
state-past (s ∷ states) zero past = absurd (omega (arith, past))
state-past (s ∷ states) (suc n) past = state-past states n (omega (arith, past))

-- the class of a number that a name has
record IsListed (program : List ClassListing) (n : ℕ) : Type 0 where
  class : ClassListing
  there : slice_get (all_classes program) n ≡ Some class

class-there : (program : List ClassListing) (name : List ℕ) (n : ℕ) → class_number program name ≡ Some n
    → IsListed program n
class-there program name n e =
    let at = item-at (all_classes program) n (number_inside program name (Some n) (sym e)) in
    record { class = at.0; there = at.1 }

module _ (program : List ClassListing) (states : List ClassState) (sized : length states ≡ length program) where
  -- the state of a class by its name is that by its number
  state-same : (name : List ℕ) (n : ℕ) (further : Chain) → class_number program name ≡ Some n
      → chain_if states (position (is_named name) program) further
      ≡ chain_with n (slice_index_or states n Done) further
  state-same name n further e =
      by (position (is_named name) program) (position (bytes_eq name) own_names) (sym (number-is program name) ∙ e)
    where
      by : (listed own : Option ℕ) → or_else listed (place_after (length program) own) ≡ Some n
          → chain_if states listed further ≡ chain_with n (slice_index_or states n Done) further
      by (Some k) own is =
          let same : k ≡ n = cc in ap (λ (m : ℕ). chain_with m (slice_index_or states m Done) further) same
      by None None is = cc
      by None (Some k) is =
          let same : length program + k ≡ n = cc in
          sym (ap (λ state. chain_with n state further) (state-past states n (omega (arith, sized, same))))

  -- the classes upwards by names are those by numbers
  chain-upwards : (steps : ℕ) (name : List ℕ)
      → chain_from program states (upwards steps program name)
      ≡ chain_upwards steps (class_tables program) states (class_number program name)
  unfolding upwards chain_upwards
  chain-upwards zero name = refl
  chain-upwards (suc steps) name =
      by (class_number program name) refl (class_at_number program name) (λ above. chain-upwards steps above)
    where
      by : (n : Option ℕ) → class_number program name ≡ n
          → option_and_then (slice_get (all_classes program)) (class_number program name) ≡ class_named program name
          → ((above : List ℕ) → chain_from program states (upwards steps program above)
          ≡ chain_upwards steps (class_tables program) states (class_number program above))
          → chain_from program states
          (with_superclasses name (λ above. upwards steps program above) (class_named program name))
          ≡ chain_upwards (suc steps) (class_tables program) states n
      by None e at further =
          ap (λ c. chain_from program states (with_superclasses name (λ above. upwards steps program above) c))
          (sym at ∙ ap (option_and_then (slice_get (all_classes program))) e)
      by (Some n) e at further =
          let listed = class-there program name n e in
          let named : class_named program name ≡ Some listed.class =
          sym at ∙ ap (option_and_then (slice_get (all_classes program))) e ∙ listed.there in
          ap (λ c. chain_from program states (with_superclasses name (λ above. upwards steps program above) c)) named
          ∙ state-same name n (chain_from program states (upwards steps program listed.class.superclass)) e
          ∙ ap (chain_with n (slice_index_or states n Done))
          (further listed.class.superclass
          ∙ ap (chain_upwards steps (class_tables program) states)
          (sym (superclass-number program n listed.class listed.there)))

  chain-further : (name : List ℕ) (n : ℕ) → class_number program name ≡ Some n
      → chain_from program states (superclasses program (superclass_in (class_named program name)))
      ≡ chain_upwards (enough_steps program) (class_tables program) states (superclass_number (class_tables program) n)
  chain-further name n e =
      let listed = class-there program name n e in
      let named : class_named program name ≡ Some listed.class =
      sym (class_at_number program name) ∙ ap (option_and_then (slice_get (all_classes program))) e ∙ listed.there in
      ap (λ c. chain_from program states (superclasses program (superclass_in c))) named
      ∙ chain-upwards (enough_steps program) listed.class.superclass
      ∙ ap (chain_upwards (enough_steps program) (class_tables program) states)
      (sym (superclass-number program n listed.class listed.there))

  -- and so is the chain of a class
  pub chain-same : (name : List ℕ) (n : ℕ) → class_number program name ≡ Some n
      → chain_of program states name ≡ chain_at program states n
  unfolding chain_upwards
  chain-same name n e =
      ap (chain_if states (position (is_named name) program)) (chain-further name n e)
      ∙ state-same name n (chain_upwards (enough_steps program) (class_tables program) states
      (superclass_number (class_tables program) n)) e

-- ---- a class that is used, by its name and by its number

-- the machine's own classes, which are initialised, needn't have a number
abbrev pub AreSame : List ClassListing → Option (List ℕ) → Option ℕ → Type 0
AreSame program None None = Unit {0}
AreSame program None (Some n) = ⊥
AreSame program (Some name) None = position (is_named name) program ≡ None
AreSame program (Some name) (Some n) = class_number program name ≡ Some n

pub initialises-same : (s : Site) (own : Completion) (name : Option (List ℕ)) (class : Option ℕ)
    → length (states_in s) ≡ length s.program → AreSame s.program name class
    → after_initialising s name own ≡ initialises_class s own class
initialises-same s own None None sized same = refl
initialises-same s own None (Some n) sized same = absurd same
initialises-same s own (Some name) None sized same =
    ap (λ place. initialises_chain s own (chain_if (states_in s) place
    (chain_from s.program (states_in s) (superclasses s.program (superclass_in (class_named s.program name)))))) same
initialises-same s own (Some name) (Some n) sized same =
    ap (initialises_chain s own) (chain-same s.program (states_in s) sized name n same)
