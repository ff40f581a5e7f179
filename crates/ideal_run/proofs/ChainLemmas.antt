-- classes and those above them, step by step
use Rattle.std.proofs.Common.{◌≡◌, ℕ, suc, ◌+◌, ◌-◌, ◌<◌, List, [], ◌∷◌, Bool, false, ◌||◌, length, position, get_or}
use Rattle.std.proofs.Common.{slice_get, slice_index_or, Option, Some, None, refl, ap, sym, ◌∙◌, arith}
use Rattle.std.specs.List.{list_any}
use Rattle.std.specs.Option.{option_and_then, option_map_or}
use Rattle.std.proofs.lemmas.Option.{slice_get-get_or}
use Rattle.model.specs.declared.turns.ClassState.{ClassState}
use Rattle.model.specs.declared.turns.ClassState.TheVariants.{Unused, Running, Done, Failed}
use Rattle.model.specs.ClassListings.{ClassListing}
use Rattle.model.specs.Classes.Named.{is_named, listed, builtin, class_named, or_else, superclass_in}
use Rattle.model.specs.Classes.Search.{upwards, with_superclasses, superclasses}
use Rattle.model.specs.Classes.Special.{superclass_at}
use Rattle.model.specs.Classes.Subclasses.{enough_steps}
use Rattle.model.specs.Initialisation.{Chain, chain_end, chain_with, chain_if, chain_from, chain_of}
use Rattle.resolve.proofs.ClassAtNumber.{place-found, place-inside}

-- what stands at a place inside
there : (xs : List ClassListing) (k : ℕ) → k < length xs → (c : ClassListing) × (slice_get xs k ≡ Some c)
there [] k h = absurd (omega arith)
there (c ∷ cs) k h = (get_or (c ∷ cs) k c, slice_get-get_or (c ∷ cs) k c h)

class_there : (xs : List ClassListing) (k : ℕ) → k < length xs → ClassListing
class_there xs k h = (there xs k h).0

there_is : (xs : List ClassListing) (k : ℕ) (h : k < length xs) → slice_get xs k ≡ Some (class_there xs k h)
unfolding class_there
there_is xs k h = (there xs k h).1

module _ (program : List ClassListing) where
  -- ---- the names upwards

  up-found : (n : ℕ) (name : List ℕ) (found : Option ClassListing) → class_named program name ≡ found
      → upwards (suc n) program name ≡ with_superclasses name (λ superclass. upwards n program superclass) found
  unfolding upwards
  up-found n name found is = ap (with_superclasses name (λ superclass. upwards n program superclass)) is

  up-zero : (name : List ℕ) → upwards 0 program name ≡ []
  unfolding upwards
  up-zero name = refl

  pub any-zero : (test : List ℕ → Bool) (name : List ℕ) (steps : ℕ) → steps ≡ 0
      → list_any test (upwards steps program name) ≡ false
  any-zero test name steps is = ap (λ (n : ℕ). list_any test (upwards n program name)) is
      ∙ ap (list_any test) (up-zero name)

  one_more : (steps : ℕ) → 0 < steps → steps ≡ suc (steps - 1)
  one_more steps h = omega arith

  pub any-none : (test : List ℕ → Bool) (name : List ℕ) (steps : ℕ) → 0 < steps → None ≡ class_named program name
      → list_any test (upwards steps program name) ≡ false
  any-none test name steps h none =
      ap (λ (n : ℕ). list_any test (upwards n program name)) (one_more steps h)
      ∙ ap (list_any test) (up-found (steps - 1) name None (sym none))

  pub any-some : (test : List ℕ → Bool) (name : List ℕ) (steps : ℕ) (c : ClassListing) → 0 < steps
      → Some c ≡ class_named program name → list_any test (upwards steps program name)
      ≡ (test name || list_any test (upwards (steps - 1) program c.superclass))
  any-some test name steps c h some =
      ap (λ (n : ℕ). list_any test (upwards n program name)) (one_more steps h)
      ∙ ap (list_any test) (up-found (steps - 1) name (Some c) (sym some))

  pub any-found : (test : List ℕ → Bool) (name : List ℕ) (steps : ℕ) (c : ClassListing) (r x y : Bool) → 0 < steps
      → Some c ≡ class_named program name → x ≡ test name → y ≡ list_any test (upwards (steps - 1) program c.superclass)
      → r ≡ (x || y) → r ≡ list_any test (upwards steps program name)
  any-found test name steps c r x y h some x-is y-is r-is =
      r-is ∙ (ap (λ (b : Bool). b || y) x-is ∙ (ap (λ (b : Bool). test name || b) y-is
      ∙ sym (any-some test name steps c h some)))

  -- ---- a class of the program by its place

  at_place : (name : List ℕ) (k : ℕ) → Some k ≡ position (is_named name) program → slice_get program k
      ≡ listed program name
  at_place name k is = ap (option_and_then (slice_get program)) is ∙ place-found (is_named name) program

  named-at : (name : List ℕ) (k : ℕ) (c : ClassListing) → Some k ≡ position (is_named name) program
      → slice_get program k ≡ Some c → class_named program name ≡ Some c
  named-at name k c is there = ap (λ (o : Option ClassListing). or_else o (builtin name)) (sym (at_place name k is)
      ∙ there)

  superclass-at : (k : ℕ) (c : ClassListing) → slice_get program k ≡ Some c → superclass_at program k ≡ c.superclass
  superclass-at k c there = ap (λ (o : Option ClassListing). option_map_or (λ (d : ClassListing). d.superclass) o [])
      there

  -- ---- chains

  module _ (states : List ClassState) where
    pub chain-zero : (name : List ℕ) (steps : ℕ) → steps ≡ 0 → chain_from program states (upwards steps program name)
        ≡ chain_end Done
    chain-zero name steps is = ap (λ (n : ℕ). chain_from program states (upwards n program name)) is
        ∙ ap (chain_from program states) (up-zero name)

    none-on : (n : ℕ) (name : List ℕ) (found : Option ClassListing) → None ≡ position (is_named name) program
        → chain_from program states (with_superclasses name (λ superclass. upwards n program superclass) found)
        ≡ chain_end Done
    none-on n name None none = refl
    none-on n name (Some c) none = ap
        (λ (o : Option ℕ). chain_if states o (chain_from program states (upwards n program c.superclass))) (sym none)

    pub chain-none : (name : List ℕ) (steps : ℕ) → 0 < steps → None ≡ position (is_named name) program
        → chain_from program states (upwards steps program name) ≡ chain_end Done
    chain-none name steps h none =
        ap (λ (n : ℕ). chain_from program states (upwards n program name)) (one_more steps h)
        ∙ ap (chain_from program states) (up-found (steps - 1) name (class_named program name) refl)
        ∙ none-on (steps - 1) name (class_named program name) none

    some-at : (name : List ℕ) (steps k : ℕ) (c : ClassListing) → slice_get program k ≡ Some c → 0 < steps
        → Some k ≡ position (is_named name) program
        → chain_from program states (upwards steps program name) ≡ chain_with k (slice_index_or states k Done)
        (chain_from program states (upwards (steps - 1) program (superclass_at program k)))
    some-at name steps k c there h is =
        ap (λ (n : ℕ). chain_from program states (upwards n program name)) (one_more steps h)
        ∙ ap (chain_from program states) (up-found (steps - 1) name (Some c) (named-at name k c is there))
        ∙ ap (λ (o : Option ℕ). chain_if states o
        (chain_from program states (upwards (steps - 1) program c.superclass))) (sym is)
        ∙ ap (λ (above : List ℕ). chain_with k (slice_index_or states k Done)
        (chain_from program states (upwards (steps - 1) program above))) (sym (superclass-at k c there))

    pub chain-some : (name : List ℕ) (steps k : ℕ) → 0 < steps → Some k ≡ position (is_named name) program
        → chain_from program states (upwards steps program name) ≡ chain_with k (slice_index_or states k Done)
        (chain_from program states (upwards (steps - 1) program (superclass_at program k)))
    chain-some name steps k h is = some-at name steps k (class_there program k within) (there_is program k within) h is
      where
        within : k < length program
        within = place-inside (is_named name) program k is

    abbrev whole : List ℕ → ℕ → Chain
    whole name steps = chain_from program states (upwards steps program name)

    ends : (name : List ℕ) (steps k : ℕ) (state : ClassState) → 0 < steps → Some k ≡ position (is_named name) program
        → state ≡ slice_index_or states k Done → chain_with k state (whole (superclass_at program k) (steps - 1))
        ≡ whole name steps
    ends name steps k state h is state-is = ap
        (λ (s : ClassState). chain_with k s (whole (superclass_at program k) (steps - 1))) state-is
        ∙ sym (chain-some name steps k h is)

    pub chain-running : (name : List ℕ) (steps k t : ℕ) → 0 < steps → Some k ≡ position (is_named name) program
        → Running t ≡ slice_index_or states k Done → chain_end (Running t) ≡ whole name steps
    chain-running name steps k t h is state-is = ends name steps k (Running t) h is state-is

    pub chain-done : (name : List ℕ) (steps k : ℕ) → 0 < steps → Some k ≡ position (is_named name) program
        → Done ≡ slice_index_or states k Done → chain_end Done ≡ whole name steps
    chain-done name steps k h is state-is = ends name steps k Done h is state-is

    pub chain-failed : (name : List ℕ) (steps k : ℕ) → 0 < steps → Some k ≡ position (is_named name) program
        → Failed ≡ slice_index_or states k Done → chain_end Failed ≡ whole name steps
    chain-failed name steps k h is state-is = ends name steps k Failed h is state-is

    pub chain-unused : (name above : List ℕ) (steps k : ℕ) (further chain : Chain) → 0 < steps
        → Some k ≡ position (is_named name) program → Unused ≡ slice_index_or states k Done
        → above ≡ superclass_at program k → further ≡ whole above (steps - 1) → chain ≡ chain_with k Unused further
        → chain ≡ whole name steps
    chain-unused name above steps k further chain h is state-is above-is further-is chain-is =
        chain-is ∙ (ap (chain_with k Unused) (further-is ∙ ap (λ (n : List ℕ). whole n (steps - 1)) above-is)
        ∙ ends name steps k Unused h is state-is)

    from-on : (name : List ℕ) (place : Option ℕ) → place ≡ position (is_named name) program
        → chain_from program states (upwards (enough_steps program + 1) program name) ≡ chain_of program states name
    from-on name None none =
        chain-none name (enough_steps program + 1) (omega arith) none
        ∙ sym (ap (λ (o : Option ℕ). chain_if states o
        (chain_from program states (superclasses program (superclass_in (class_named program name))))) (sym none))
    from-on name (Some k) is =
        let within : k < length program = place-inside (is_named name) program k is in
        let there = there_is program k within in
        let less : enough_steps program + 1 - 1 ≡ enough_steps program = omega arith in
        chain-some name (enough_steps program + 1) k (omega arith) is
        ∙ ap (λ (n : ℕ). chain_with k (slice_index_or states k Done)
        (chain_from program states (upwards n program (superclass_at program k)))) less
        ∙ ap (λ (above : List ℕ). chain_with k (slice_index_or states k Done)
        (chain_from program states (superclasses program above)))
        (superclass-at k (class_there program k within) there
        ∙ sym (ap superclass_in (named-at name k (class_there program k within) is there)))
        ∙ sym (ap (λ (o : Option ℕ). chain_if states o
        (chain_from program states (superclasses program (superclass_in (class_named program name))))) (sym is))

    pub chain_of-is : (name : List ℕ) (steps : ℕ) → steps ≡ enough_steps program + 1
        → chain_from program states (upwards steps program name) ≡ chain_of program states name
    chain_of-is name steps is = ap (λ (n : ℕ). chain_from program states (upwards n program name)) is
        ∙ from-on name (position (is_named name) program) refl

pub ruleset chains = (
  any-zero,
  any-none,
  any-found,
  chain-zero,
  chain-none,
  chain-running,
  chain-done,
  chain-failed,
  chain-unused,
  chain_of-is,
)
