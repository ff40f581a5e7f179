-- The tests of subclasses and of types tell the least relations.
use Rattle.std.proofs.Common.{◌≡◌, ◌↔◌, ◌==◌, ℕ, zero, suc, ◌+◌, ◌-◌, ◌<◌, ◌≤◌, List, [], ◌∷◌, length, take, Bool, true}
use Rattle.std.proofs.Common.{false, Option, Some, None, refl, sym, ap, subst, arith, ◌∙◌, if◌then◌else◌}
use Rattle.std.proofs.lemmas.Bool.{eqb-true}
use Rattle.std.proofs.lemmas.List.{length-take-le}
use Rattle.std.proofs.lemmas.Slice.Eq.{bytes_eq-Decides}
use Rattle.std.specs.Prelude.{codes}
use Rattle.std.specs.Str.{bytes_eq}
use Rattle.model.specs.ClassListings.{ClassListing}
use Rattle.model.specs.Classes.Subclass.{Subclass}
use Rattle.model.specs.Classes.Subclasses.{is_subclass}
use Rattle.model.specs.Classes.Types.{Element, described, element_of, is_subtype, is_subtype_within, types_compare}
use Rattle.model.specs.Classes.Types.Element.{Number, Reference}
use Rattle.model.proofs.SubclassTest.{Subclass-is_subclass, is_subclass-Subclass}
use Rattle.resolve.specs.Subtypes.{Subtype}
use Rattle.resolve.specs.Subtypes.Subtype.{classes, object, numbers, arrays}

-- ---- classes

pub subclass-least : (program : List ClassListing) (name above : List ℕ) (answer : Bool)
    → answer ≡ is_subclass program name above → (answer ≡ true) ↔ Subclass program name above
subclass-least program name above answer is = (
  λ h. is_subclass-Subclass program name above (sym is ∙ h),
  λ h. is ∙ Subclass-is_subclass program name above h,
)

-- ---- what an array holds is shorter

some-reference : (x y : List ℕ) → Some (Reference x) ≡ Some (Reference y) → x ≡ y
some-reference x y e = cc

shorter-described : (cs element : List ℕ) → described cs ≡ Some (Reference element) → length element ≤ length cs
shorter-described [] element e = cc
shorter-described (c ∷ cs) element e = by (c == 76) (c == 91) e
  where
    by : (l a : Bool)
        → (if l then Some (Reference (take (length cs - 1) cs)) else if a then Some (Reference (c ∷ cs))
        else Some (Number c)) ≡ Some (Reference element)
        → length element ≤ suc (length cs)
    by true a e =
        let few : length cs - 1 ≤ length cs = omega arith in
        let taken : length (take (length cs - 1) cs) ≡ length cs - 1 = length-take-le (length cs - 1) cs few in
        let same : take (length cs - 1) cs ≡ element = some-reference (take (length cs - 1) cs) element e in
        let all : length element ≡ length cs - 1 = ap (λ (x : List ℕ). length x) (sym same) ∙ taken in
        omega (arith, all)
    by false true e =
        let all : suc (length cs) ≡ length element = ap (λ (x : List ℕ). length x) (some-reference (c ∷ cs) element e) in
        omega (arith, all)
    by false false e = cc

shorter : (name element : List ℕ) → element_of name ≡ Some (Reference element) → length element < length name
shorter [] element e = cc
shorter (b ∷ bs) element e = by (b == 91) e
  where
    by : (array : Bool) → (if array then described bs else None) ≡ Some (Reference element)
        → length element < suc (length bs)
    by true e = let few : length element ≤ length bs = shorter-described bs element e in omega (arith, few)
    by false e = cc

-- ---- types

module _ (program : List ClassListing) where
  abbrev Within : ℕ → Type 0
  Within steps = (n m : List ℕ) → is_subtype_within steps program n m ≡ true → Subtype program n m

  -- what the test finds is so
  found : (steps : ℕ) → Within steps → (name above : List ℕ) (element other : Option Element)
      → element_of name ≡ element → element_of above ≡ other
      → types_compare (is_subclass program name above) (bytes_eq above (codes "java/lang/Object"))
      (λ n m. is_subtype_within steps program n m) element other ≡ true
      → Subtype program name above
  found steps rest name above None other p q e = classes p (is_subclass-Subclass program name above e)
  found steps rest name above (Some x) None p q e =
      subst (λ (n : List ℕ). Subtype program name n)
      (sym ((bytes_eq-Decides above (codes "java/lang/Object")).0 e)) (object x p)
  found steps rest name above (Some (Number n)) (Some (Number m)) p q e =
      let same : n ≡ m = eqb-true n m e in
      numbers m (subst (λ (l : ℕ). element_of name ≡ Some (Number l)) same p) q
  found steps rest name above (Some (Number n)) (Some (Reference m)) p q e = cc
  found steps rest name above (Some (Reference n)) (Some (Number m)) p q e = cc
  found steps rest name above (Some (Reference n)) (Some (Reference m)) p q e = arrays n m p q (rest n m e)

  within-found : (steps : ℕ) → Within steps
  unfolding is_subtype_within
  within-found zero name above e = cc
  within-found (suc steps) name above e =
      found steps (within-found steps) name above (element_of name) (element_of above) refl refl e

  -- what is so is found
  itself : (n : ℕ) → (n == n) ≡ true
  itself n = search arith

  step : (steps : ℕ) (name above : List ℕ) → is_subtype_within (suc steps) program name above
      ≡ types_compare (is_subclass program name above) (bytes_eq above (codes "java/lang/Object"))
      (λ n m. is_subtype_within steps program n m) (element_of name) (element_of above)
  unfolding is_subtype_within
  step steps name above = refl

  abbrev Compared : ℕ → List ℕ → List ℕ → Option Element → Option Element → Bool
  Compared steps name above x y =
      types_compare (is_subclass program name above) (bytes_eq above (codes "java/lang/Object"))
      (λ n m. is_subtype_within steps program n m) x y

  so : {name above : List ℕ} → Subtype program name above → (steps : ℕ) → length name < steps
      → is_subtype_within steps program name above ≡ true
  so h zero few = absurd (omega (arith, few))
  so (classes {name = name} {above = above} p below) (suc steps) few =
      step steps name above
      ∙ ap (λ (z : Option Element). Compared steps name above z (element_of above)) p
      ∙ Subclass-is_subclass program name above below
  so (object {name = name} element p) (suc steps) few =
      step steps name (codes "java/lang/Object")
      ∙ ap (λ (z : Option Element). Compared steps name (codes "java/lang/Object") z None) p
      ∙ (bytes_eq-Decides (codes "java/lang/Object") (codes "java/lang/Object")).1 refl
  so (numbers {name = name} {above = above} letter p q) (suc steps) few =
      step steps name above
      ∙ ap (λ (z : Option Element). Compared steps name above z (element_of above)) p
      ∙ ap (λ (z : Option Element). Compared steps name above (Some (Number letter)) z) q
      ∙ itself letter
  so (arrays {name = name} {above = above} element other p q below) (suc steps) few =
      let less : length element < length name = shorter name element p in
      step steps name above
      ∙ ap (λ (z : Option Element). Compared steps name above z (element_of above)) p
      ∙ ap (λ (z : Option Element). Compared steps name above (Some (Reference element)) z) q
      ∙ so below steps (omega (arith, less, few))

pub subtype-least : (program : List ClassListing) (name above : List ℕ) (answer : Bool)
    → answer ≡ is_subtype program name above → (answer ≡ true) ↔ Subtype program name above
subtype-least program name above answer is =
    let enough : length name < length name + 1 = omega arith in (
      λ h. within-found program (length name + 1) name above (sym is ∙ h),
      λ h. is ∙ so program h (length name + 1) enough,
    )
