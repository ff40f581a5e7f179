-- What the tables say of the method of a frame is what its listing says.
use Rattle.std.proofs.Common.{◌≡◌, ℕ, zero, suc, List, [], ◌∷◌, length, slice_get, nat_lt, Bool, true, false, Option}
use Rattle.std.proofs.Common.{if◌then◌else◌, Some, None, refl, sym, ap, ◌∙◌, subst, ◌<◌, arith}
use Rattle.std.specs.Option.{option_and_then, option_map}
use Rattle.std.proofs.lemmas.Bool.{ltb-true, ltb-false}
use Rattle.std.proofs.lemmas.Option.{slice_get_past}
use Rattle.model.specs.declared.listings.Method.{Method}
use Rattle.model.specs.declared.places.MethodPlace.{MethodPlace}
use Rattle.model.specs.declared.values.Kind.{Kind}
use Rattle.model.specs.declared.values.Kind.TheVariants.{Int, Long, Ref}
use Rattle.model.specs.ClassListings.{ClassListing}
use Rattle.model.specs.Frames.{Frame}
use Rattle.model.specs.Initialisation.{is_initializer_if, runs_initializer}
use Rattle.model.specs.Programs.{method_at, method_in}
use Rattle.model.specs.Table.Returns.{gives, same_result}
use Rattle.linking.specs.declared.method_tables.Returns.TheVariants.{Otherwise}
use Rattle.linking.specs.MethodFacts.{MethodFacts}
use Rattle.linking.specs.MethodTables.{facts_at, method_facts, method_tables}
use Rattle.linking.specs.Returns.{returning, returns_of}
use Rattle.linking.proofs.MethodTableLemmas.{program-facts}
use Rattle.instructions.specs.MethodsByNumber.{facts_if, facts_in, gives_in, is_initializer_in, runs_initializer_in}

module _ (program : List ClassListing) (place : MethodPlace) where
  -- the facts of a method that there is, and no others
  pub data Reported : Option MethodFacts → Option Method → Type 0 where
    Nothing : Reported None None
    Facts : (name : List ℕ) (m : Method) → Reported (Some (method_facts program name m)) (Some m)

  reported_as : (name : List ℕ) (m : Option Method) → Reported (option_map (method_facts program name) m) m
  reported_as name None = Nothing
  reported_as name (Some m) = Facts name m

  somewhere : (classes : List ClassListing) (n : ℕ) → n < length classes → slice_get classes n ≡ None → ⊥
  somewhere [] n within none = absurd (omega arith)
  somewhere (c ∷ classes) zero within none = cc
  somewhere (c ∷ classes) (suc n) within none = somewhere classes n (omega arith) none

  abbrev method_of_class : Option ClassListing → Option Method
  method_of_class class = option_and_then (λ (c : ClassListing). method_in c place.method) class

  pub method-reported : Reported (facts_in program place) (method_at program place)
  method-reported = by (nat_lt place.class (length program)) refl
    where
      there : (o : Option ClassListing) → slice_get program place.class ≡ o → place.class < length program
          → Reported (facts_at (method_tables program) place) (method_at program place)
      there None is within = absurd (somewhere program place.class within is)
      there (Some c) is within =
          subst (λ facts. Reported facts (method_at program place)) (sym (program-facts program place c is))
          (reported_as c.name (method_at program place))

      by : (b : Bool) → nat_lt place.class (length program) ≡ b
          → Reported (facts_if b (facts_at (method_tables program) place)) (method_at program place)
      by true is = there (slice_get program place.class) refl (ltb-true place.class (length program) is)
      by false is =
          let none : method_at program place ≡ None =
          ap method_of_class (slice_get_past program place.class (ltb-false place.class (length program) is)) in
          subst (Reported None) (sym none) Nothing

  -- ---- what is asked of it

  initializer_as : (facts : Option MethodFacts) (m : Option Method) → Reported facts m → is_initializer_in facts
      ≡ is_initializer_if m
  initializer_as _ _ Nothing = refl
  initializer_as _ _ (Facts name m) = refl

  pub initializer-is : is_initializer_in (facts_in program place) ≡ is_initializer_if (method_at program place)
  initializer-is = initializer_as _ _ method-reported

  gives_as : (kind : Option Kind) (facts : Option MethodFacts) (m : Option Method) → Reported facts m
      → gives_in kind facts ≡ gives kind m
  gives_as kind _ _ Nothing = refl
  gives_as kind _ _ (Facts name m) = refl

  pub gives-is : (kind : Option Kind) → gives_in kind (facts_in program place) ≡ gives kind (method_at program place)
  gives-is kind = gives_as kind _ _ method-reported

  -- of what was found in the tables
  pub initializer-found : (facts : Option MethodFacts) → facts ≡ facts_in program place
      → is_initializer_in facts ≡ is_initializer_if (method_at program place)
  initializer-found facts is = ap is_initializer_in is ∙ initializer-is

  pub gives-found : (kind : Option Kind) (facts : Option MethodFacts) → facts ≡ facts_in program place
      → gives_in kind facts ≡ gives kind (method_at program place)
  gives-found kind facts is = ap (gives_in kind) is ∙ gives-is kind

-- whether a frame runs a class initializer, by numbers
pub runs_initializer_is : (program : List ClassListing) (f : Frame) → runs_initializer_in program f
    ≡ runs_initializer program f
runs_initializer_is program f = initializer-is program f.method

-- ---- how a method returns

gives-nothing-else : (kind other : Option Kind) → returning other ≡ returning kind → same_result kind other ≡ true
gives-nothing-else None None e = refl
gives-nothing-else (Some Int) None e = cc
gives-nothing-else (Some Long) None e = cc
gives-nothing-else (Some Ref) None e = cc
gives-nothing-else None (Some Int) e = cc
gives-nothing-else None (Some Long) e = cc
gives-nothing-else None (Some Ref) e = cc
gives-nothing-else (Some Int) (Some Int) e = refl
gives-nothing-else (Some Int) (Some Long) e = cc
gives-nothing-else (Some Int) (Some Ref) e = cc
gives-nothing-else (Some Long) (Some Int) e = cc
gives-nothing-else (Some Long) (Some Long) e = refl
gives-nothing-else (Some Long) (Some Ref) e = cc
gives-nothing-else (Some Ref) (Some Int) e = cc
gives-nothing-else (Some Ref) (Some Long) e = cc
gives-nothing-else (Some Ref) (Some Ref) e = refl

otherwise-none : (kind : Option Kind) → Otherwise ≡ returning kind → ⊥
otherwise-none None e = cc
otherwise-none (Some Int) e = cc
otherwise-none (Some Long) e = cc
otherwise-none (Some Ref) e = cc

-- of what returns with a result of a kind, or with none
pub no-initializer : (info : Option MethodFacts) (kind : Option Kind) → returns_of info ≡ returning kind
    → is_initializer_in info ≡ false
no-initializer None kind e = absurd (otherwise-none kind e)
no-initializer (Some facts) kind e = by facts.is_initializer refl
  where
    by : (b : Bool) → facts.is_initializer ≡ b → facts.is_initializer ≡ false
    by false is = is
    by true is = absurd
        (otherwise-none kind (sym (ap (λ (b : Bool). if b then Otherwise else returning facts.kind) is) ∙ e))

pub gives-that : (info : Option MethodFacts) (kind : Option Kind) → returns_of info ≡ returning kind
    → gives_in kind info ≡ true
gives-that None kind e = absurd (otherwise-none kind e)
gives-that (Some facts) kind e = by facts.is_initializer refl
  where
    by : (b : Bool) → facts.is_initializer ≡ b → same_result kind facts.kind ≡ true
    by false is = gives-nothing-else kind facts.kind
        (sym (ap (λ (b : Bool). if b then Otherwise else returning facts.kind) is) ∙ e)
    by true is = absurd
        (otherwise-none kind (sym (ap (λ (b : Bool). if b then Otherwise else returning facts.kind) is) ∙ e))
