-- What the tables say of methods and initializers, in the program's own words.
use Rattle.std.proofs.Common.{◌≡◌, ◌∙◌, ℕ, zero, suc, ◌+◌, ◌==◌, List, [], ◌∷◌, ◌++◌, length, map, slice_get, cond}
use Rattle.std.proofs.Common.{Option, Some, None, refl, arith, ap, sym}
use Rattle.std.specs.Option.{option_and_then, option_map}
use Rattle.std.proofs.Math.Dec.{eqb-suc-suc, eqb-suc-zero}
use Rattle.std.proofs.lemmas.Option.{slice_get-map}
use Rattle.model.specs.declared.builtins.Builtin.{Builtin}
use Rattle.model.specs.declared.listings.Method.{Method}
use Rattle.model.specs.declared.places.MethodPlace.{MethodPlace}
use Rattle.model.specs.Callees.{Callee, callee_by, coded}
use Rattle.model.specs.Callees.Callee.{Own, Coded, NoCode}
use Rattle.model.specs.ClassListings.{ClassListing}
use Rattle.model.specs.Classes.Builtin.{builtin_classes}
use Rattle.model.specs.Classes.MethodPlaces.{member_of, place_of}
use Rattle.model.specs.Classes.Named.{or_else}
use Rattle.model.specs.Classes.Search.{Declared}
use Rattle.model.specs.CodeListings.{CodeListing}
use Rattle.model.specs.Initialisation.{initializer_in, initializer_place, wants_initialising}
use Rattle.model.specs.Programs.{builtin_of, empty_initializer, method_at, method_in}
use Rattle.linking.specs.declared.method_tables.Body.{Body}
use Rattle.linking.specs.declared.method_tables.Body.TheVariants.{NoCode as NoBody, Own as OwnBody, Coded as CodedBody}
use Rattle.linking.specs.Initializers.{class_initializer, initializers, is_wanted_in, method_if, place_in, wanted_if}
use Rattle.linking.specs.MethodFacts.{MethodFacts}
use Rattle.linking.specs.MethodTables.{body_by, body_of, class_methods, facts_at, method_facts, method_tables}
use Rattle.linking.specs.MethodTables.{own_methods}

-- ---- methods

pub at-front : {A B : Type 0} (f : A → B) (xs : List A) (rest : List B) (n : ℕ) (x : A) → slice_get xs n ≡ Some x
    → slice_get (map f xs ++ rest) n ≡ Some (f x)
at-front f [] rest n x at = cc
at-front f (y ∷ xs) rest zero x at = cc
at-front f (y ∷ xs) rest (suc n) x at = at-front f xs rest n x at

following : {A B : Type 0} (f : A → B) (xs : List A) (rest : List B) (n : ℕ)
    → slice_get (map f xs ++ rest) (length xs + n) ≡ slice_get rest n
following f [] rest n = let same : 0 + n ≡ n = omega arith in ap (slice_get rest) same
following f (x ∷ xs) rest n =
    let next : length (x ∷ xs) + n ≡ suc (length xs + n) = omega arith in
    ap (slice_get (f x ∷ (map f xs ++ rest))) next ∙ following f xs rest n

with-last : (f : Method → MethodFacts) (ms : List Method) (last : Method) (k : ℕ)
    → slice_get (map f ms ++ f last ∷ []) k
    ≡ option_map f (or_else (slice_get ms k) (cond (k == length ms) (Some last) None))
with-last f [] last zero = refl
with-last f [] last (suc k) = sym (ap (λ b. option_map f (cond b (Some last) None)) (eqb-suc-zero k))
with-last f (m ∷ ms) last zero = refl
with-last f (m ∷ ms) last (suc k) =
    with-last f ms last k ∙ sym (ap (λ b. option_map f (or_else (slice_get ms k) (cond b (Some last) None)))
    (eqb-suc-suc k (length ms)))

abbrev pub method_of : Option (List MethodFacts) → ℕ → Option MethodFacts
method_of methods k = option_and_then (λ (ms : List MethodFacts). slice_get ms k) methods

-- of a class of the program, its empty initializer among them
pub program-facts : (program : List ClassListing) (place : MethodPlace) (c : ClassListing)
    → slice_get program place.class ≡ Some c
    → facts_at (method_tables program) place ≡ option_map (method_facts program c.name) (method_at program place)
program-facts program place c at =
    ap (λ methods. method_of methods place.method) (at-front (class_methods program) program
    (map (own_methods program) builtin_classes) place.class c at)
    ∙ with-last (method_facts program c.name) c.methods empty_initializer place.method
    ∙ ap (λ (class : Option ClassListing). option_map (method_facts program c.name)
    (option_and_then (λ (d : ClassListing). method_in d place.method) class)) (sym at)

-- of one of the machine's own classes
pub own-facts : (program : List ClassListing) (n k : ℕ) (c : ClassListing) → slice_get builtin_classes n ≡ Some c
    → facts_at (method_tables program) (record { class = length program + n; method = k })
    ≡ option_map (method_facts program c.name) (slice_get c.methods k)
own-facts program n k c at =
    ap (λ methods. method_of methods k)
    (following (class_methods program) program (map (own_methods program) builtin_classes) n
    ∙ slice_get-map (own_methods program) builtin_classes n
    ∙ ap (option_map (own_methods program)) at)
    ∙ slice_get-map (method_facts program c.name) c.methods k

-- ---- what a method has to run

abbrev pub body_of_callee : Callee → Body
body_of_callee (Own builtin) = OwnBody builtin
body_of_callee (Coded m) = CodedBody m.code.max_locals m.code.max_stack
body_of_callee NoCode = NoBody

pub callee-body : (program : List ClassListing) (d : Declared Method) (place : MethodPlace) → place_of program d
    ≡ Some place
    → body_of_callee (callee_by program d (builtin_of (member_of d))) ≡ body_of d.class d.member
callee-body program d place at = by (builtin_of (member_of d)) where
  none : (code : Option CodeListing) → body_of_callee (coded d.member code (place_of program d)) ≡ body_by None code
  none None = refl
  none (Some code) = ap (λ (p : Option MethodPlace). body_of_callee (coded d.member (Some code) p)) at

  by : (builtin : Option Builtin) → body_of_callee (callee_by program d builtin) ≡ body_by builtin d.member.code
  by (Some builtin) = refl
  by None = none d.member.code

-- ---- initializers

pub initializer-place : (program : List ClassListing) (class : ℕ) → place_in (initializers program) class ≡
    initializer_place program class
initializer-place program class =
    ap (λ (n : ℕ). let place : MethodPlace = record { class = class; method = n } in place)
    (ap method_if (slice_get-map (class_initializer program) program class) ∙ by (slice_get program class))
  where
    by : (c : Option ClassListing) → method_if (option_map (class_initializer program) c) ≡ initializer_in c
    by None = refl
    by (Some c) = refl

pub wanted-class : (program : List ClassListing) (class : ℕ) (c : ClassListing) → slice_get program class ≡ Some c
    → is_wanted_in (initializers program) class ≡ wants_initialising program c
wanted-class program class c at = ap wanted_if (slice_get-map (class_initializer program) program class
    ∙ ap (option_map (class_initializer program)) at)
