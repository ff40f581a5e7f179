-- Types taken apart, element by element.
use Rattle.std.proofs.Common.{◌≡◌, ℕ, suc, ◌+◌, ◌-◌, ◌<◌, ◌≤◌, List, Bool, true, false, Option, Some, None, is_some}
use Rattle.std.proofs.Common.{Bor, refl, sym, ap, ◌∙◌, arith}
use Rattle.std.specs.Option.{option_copied}
use Rattle.std.specs.Prelude.{codes}
use Rattle.std.specs.Str.{bytes_eq}
use Rattle.model.specs.ClassListings.{ClassListing}
use Rattle.model.specs.Classes.Named.{class_named}
use Rattle.model.specs.Classes.Subclasses.{is_subclass}
use Rattle.model.specs.Classes.Types.{element_of, is_subtype_within, is_there_within, type_is_there, types_compare}
use Rattle.model.specs.Classes.Types.Element.{Number, Reference}

-- whether a type is there, seen from what so many steps have left
abbrev pub LeftThere : List ClassListing → ℕ → ℕ → List ℕ → Bool → Type 0
LeftThere program steps passed name whole = is_there_within (steps - passed) program name ≡ whole

there-on : (program : List ClassListing) (steps more : ℕ) (name : List ℕ) → steps ≡ suc more
    → is_there_within steps program name ≡ type_is_there (is_some (class_named program name))
    (λ element. is_there_within more program element) (element_of name)
unfolding is_there_within
there-on program steps more name e = rw e refl

pub there-class : (program : List ClassListing) (steps passed : ℕ) (name : List ℕ) (whole : Bool)
    → LeftThere program steps passed name whole
    → passed < steps → None ≡ element_of name → is_some (class_named program name) ≡ whole
there-class program steps passed name whole left inside e =
    ap (type_is_there (is_some (class_named program name)) (λ element. is_there_within (steps - (passed + 1)) program
    element)) e
    ∙ sym (there-on program (steps - passed) (steps - (passed + 1)) name (omega arith)) ∙ left

pub there-number : (program : List ClassListing) (steps passed : ℕ) (name : List ℕ) (whole : Bool) (letter : ℕ)
    → LeftThere program steps passed name whole
    → passed < steps → Some (Number letter) ≡ element_of name → true ≡ whole
there-number program steps passed name whole letter left inside e =
    ap (type_is_there (is_some (class_named program name)) (λ element. is_there_within (steps - (passed + 1)) program
    element)) e
    ∙ sym (there-on program (steps - passed) (steps - (passed + 1)) name (omega arith)) ∙ left

pub there-next : (program : List ClassListing) (steps passed : ℕ) (name element : List ℕ) (whole : Bool)
    → LeftThere program steps passed name whole
    → passed < steps → Some (Reference element) ≡ element_of name → LeftThere program steps (passed + 1) element whole
there-next program steps passed name element whole left inside e =
    ap (type_is_there (is_some (class_named program name)) (λ element. is_there_within (steps - (passed + 1)) program
    element)) e
    ∙ sym (there-on program (steps - passed) (steps - (passed + 1)) name (omega arith)) ∙ left

pub there-over : (program : List ClassListing) (steps passed : ℕ) (name : List ℕ) (whole : Bool)
    → LeftThere program steps passed name whole
    → steps ≤ passed → false ≡ whole
unfolding is_there_within
there-over program steps passed name whole left done =
    let none : steps - passed ≡ 0 = omega arith in
    ap (λ (n : ℕ). is_there_within n program name) (sym none) ∙ left

pub some-copied : (result : Option (Bor ClassListing)) (class : Option ClassListing) → option_copied result ≡ class
    → is_some result ≡ is_some class
some-copied None class e = ap (λ (c : Option ClassListing). is_some c) e
some-copied (Some c) class e = ap (λ (c : Option ClassListing). is_some c) e

-- ---- whether a type is another's subclass, seen from what so many steps have left

abbrev pub LeftBelow : List ClassListing → ℕ → ℕ → List ℕ → List ℕ → Bool → Type 0
LeftBelow program steps passed name above whole = is_subtype_within (steps - passed) program name above ≡ whole

-- an answer on two types, whatever is said of their elements
abbrev pub Compares : List ClassListing → List ℕ → List ℕ → ((List ℕ → List ℕ → Bool) → Bool) → Type 0
Compares program name above answer =
    (elements : List ℕ → List ℕ → Bool)
    → answer elements ≡ types_compare (is_subclass program name above) (bytes_eq above (codes "java/lang/Object"))
    elements (element_of name) (element_of above)

module _ (program : List ClassListing) (steps passed : ℕ) (name above : List ℕ) (whole : Bool)
    (left : LeftBelow program steps passed name above whole) where
  below-on : (more : ℕ) → steps - passed ≡ suc more
      → types_compare (is_subclass program name above) (bytes_eq above (codes "java/lang/Object"))
      (λ n m. is_subtype_within more program n m) (element_of name) (element_of above) ≡ whole
  unfolding is_subtype_within
  below-on more e = sym (ap (λ (n : ℕ). is_subtype_within n program name above) e) ∙ left

  pub below-reported : (answer : Bool) → passed < steps → Compares program name above (λ elements. answer)
      → answer ≡ whole
  below-reported answer inside compares =
      let more : ℕ = steps - (passed + 1) in
      compares (λ n m. is_subtype_within more program n m) ∙ below-on more (omega (arith, inside))

  pub below-next : (element other : List ℕ) → passed < steps
      → Compares program name above (λ elements. elements element other)
      → LeftBelow program steps (passed + 1) element other whole
  below-next element other inside compares =
      let more : ℕ = steps - (passed + 1) in
      compares (λ n m. is_subtype_within more program n m) ∙ below-on more (omega (arith, inside))

  pub below-over : steps ≤ passed → false ≡ whole
  unfolding is_subtype_within
  below-over done =
      let none : steps - passed ≡ 0 = omega (arith, done) in
      sym (ap (λ (n : ℕ). is_subtype_within n program name above) none) ∙ left
