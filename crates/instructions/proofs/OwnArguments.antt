-- The machine's own methods on objects take no arguments.
use Rattle.std.proofs.Common.{◌≡◌, inl, inr, ℕ, zero, suc, List, [], ◌∷◌, ◌++◌, map, false, Option, Some, None, Ok}
use Rattle.std.proofs.Common.{refl, sym, ap, ◌∙◌}
use Rattle.std.specs.Prelude.{slice_get}
use Rattle.model.specs.declared.builtins.Builtin.{Builtin}
use Rattle.model.specs.declared.builtins.Builtin.TheVariants.{PrintInt, PrintLong, PutByte, Initialize, RunThread}
use Rattle.model.specs.declared.builtins.Builtin.TheVariants.{StartThread, JoinThread}
use Rattle.model.specs.declared.listings.Method.{Method}
use Rattle.model.specs.declared.names.Member.{Member}
use Rattle.model.specs.declared.places.MethodPlace.{MethodPlace}
use Rattle.model.specs.declared.values.Value.{Value}
use Rattle.model.specs.ClassListings.{ClassListing}
use Rattle.model.specs.Classes.Builtin.{builtin_classes}
use Rattle.model.specs.CodeListings.{CodeListing}
use Rattle.model.specs.Frames.{ref_on}
use Rattle.model.specs.Programs.{builtin_of, empty_initializer}
use Rattle.model.specs.Signatures.{argument_kinds}
use Rattle.linking.specs.declared.method_tables.Body.TheVariants.{Own}
use Rattle.linking.specs.MethodFacts.{MethodFacts}
use Rattle.linking.specs.MethodTables.{body_by, class_methods, method_facts, method_tables, own_methods}
use Rattle.instructions.specs.CallsByNumbers.{known_at, object_found}
use Rattle.instructions.specs.OwnCalls.{is_printing}
use Rattle.instructions.proofs.CodeResolves.{and_then-some}
use Rattle.instructions.proofs.DeclaredMethods.{either-part}
use Rattle.instructions.proofs.OwnCalls.{own_called, own_descriptor}

-- ---- the method of which something is known

record IsOfMethod (program : List ClassListing) (facts : MethodFacts) : Type 0 where
  class : List ℕ
  method : Method
  same : method_facts program class method ≡ facts

module _ (program : List ClassListing) where
  in-methods : (class : List ℕ) (methods : List Method) (k : ℕ) (facts : MethodFacts)
      → slice_get (map (method_facts program class) methods) k ≡ Some facts → IsOfMethod program facts
  in-methods class [] k facts e = cc
  in-methods class (m ∷ ms) zero facts e = record { class = class; method = m; same = cc }
  in-methods class (m ∷ ms) (suc k) facts e = in-methods class ms k facts e

  in-more : (class : List ℕ) (methods : List Method) (last : Method) (k : ℕ) (facts : MethodFacts)
      → slice_get (map (method_facts program class) methods ++ method_facts program class last ∷ []) k ≡ Some facts
      → IsOfMethod program facts
  in-more class [] last zero facts e = record { class = class; method = last; same = cc }
  in-more class [] last (suc k) facts e = cc
  in-more class (m ∷ ms) last zero facts e = record { class = class; method = m; same = cc }
  in-more class (m ∷ ms) last (suc k) facts e = in-more class ms last k facts e

  in-classes : (cs : List ClassListing) (n k : ℕ) (methods : List MethodFacts) (facts : MethodFacts)
      → slice_get (map (class_methods program) cs) n ≡ Some methods → slice_get methods k ≡ Some facts
      → IsOfMethod program facts
  in-classes [] n k methods facts there e = cc
  in-classes (c ∷ cs) zero k methods facts there e =
      let same : class_methods program c ≡ methods = cc in
      in-more c.name c.methods empty_initializer k facts (ap (λ (ms : List MethodFacts). slice_get ms k) same ∙ e)
  in-classes (c ∷ cs) (suc n) k methods facts there e = in-classes cs n k methods facts there e

  in-own : (cs : List ClassListing) (n k : ℕ) (methods : List MethodFacts) (facts : MethodFacts)
      → slice_get (map (own_methods program) cs) n ≡ Some methods → slice_get methods k ≡ Some facts
      → IsOfMethod program facts
  in-own [] n k methods facts there e = cc
  in-own (c ∷ cs) zero k methods facts there e =
      let same : own_methods program c ≡ methods = cc in
      in-methods c.name c.methods k facts (ap (λ (ms : List MethodFacts). slice_get ms k) same ∙ e)
  in-own (c ∷ cs) (suc n) k methods facts there e = in-own cs n k methods facts there e

  known-method : (place : MethodPlace) (facts : MethodFacts) → known_at program place ≡ Some facts
      → IsOfMethod program facts
  known-method place facts known =
      let methods = and_then-some (λ (methods : List MethodFacts). slice_get methods place.method)
      (slice_get (method_tables program) place.class) facts known in
      elim (either-part (map (class_methods program) program) (map (own_methods program) builtin_classes) place.class
      methods.0 methods.1) [
        | inl there ↦ in-classes program place.class place.method methods.0 facts there methods.2
        | inr following ↦ in-own builtin_classes following.place place.method methods.0 facts following.there methods.2
      ]

-- ---- its arguments

own-body : (own : Option Builtin) (code : Option CodeListing) (builtin : Builtin) → body_by own code ≡ Own builtin
    → own ≡ Some builtin
own-body (Some b) code builtin e = cc
own-body None None builtin e = cc
own-body None (Some code) builtin e = cc

no-kinds : (builtin : Builtin) → is_printing builtin ≡ false → argument_kinds (own_descriptor builtin) ≡ []
no-kinds PrintInt e = cc
no-kinds PrintLong e = cc
no-kinds PutByte e = cc
no-kinds Initialize e = refl
no-kinds RunThread e = refl
no-kinds StartThread e = refl
no-kinds JoinThread e = refl

module _ (program : List ClassListing) (place : MethodPlace) (facts : MethodFacts) (known : known_at program place
    ≡ Some facts)
    (builtin : Builtin) (own : facts.body ≡ Own builtin) (plain : is_printing builtin ≡ false) where
  no-arguments : facts.arguments ≡ []
  no-arguments =
      let is = known-method program place facts known in
      let m = is.method in
      let member : Member = record { class = is.class; name = m.name; descriptor = m.descriptor } in
      let called = own_called member builtin
      (own-body (builtin_of member) m.code builtin (ap (λ (f : MethodFacts). f.body) is.same ∙ own)) in
      sym (ap (λ (f : MethodFacts). f.arguments) is.same) ∙ ap argument_kinds called.descriptor ∙ no-kinds builtin plain

  -- the object is at the top
  pub object-top : (stack : List Value) (object : ℕ) → object_found facts.arguments stack ≡ Ok (Some object)
      → ref_on stack ≡ Ok (Some object)
  object-top stack object e = sym (ap (λ kinds. object_found kinds stack) no-arguments) ∙ e
