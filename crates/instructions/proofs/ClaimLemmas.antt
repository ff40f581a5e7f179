-- Claims of classes: the walk upwards, and what a claim takes.
use Rattle.std.proofs.Common.{◌≡◌, ◌≢◌, ℕ, zero, suc, ◌+◌, ◌-◌, ◌<◌, List, [], ◌∷◌, length, slice_index_or, Option}
use Rattle.std.proofs.Common.{Some, None, refl, sym, ap, subst, ◌∙◌, arith}
use Rattle.model.specs.declared.turns.ClassState.{ClassState}
use Rattle.model.specs.declared.turns.ClassState.TheVariants.{Unused, Running, Done, Failed}
use Rattle.model.specs.ClassListings.{ClassListing}
use Rattle.model.specs.Classes.Subclasses.{enough_steps}
use Rattle.model.specs.Initialisation.{Chain, chain_end, chain_with}
use Rattle.linking.specs.ClassFacts.{ClassFacts}
use Rattle.linking.specs.ClassTables.{class_tables, superclass_in}
use Rattle.instructions.specs.InitialisingByNumbers.{AreBelow, AreClaimed, chain_at, chain_upwards, claimed}
use Rattle.instructions.specs.InitialisingByNumbers.{classes_upwards}

-- ---- the walk upwards

-- so many steps are left from a class on, before which so many classes were never used
abbrev pub Walks : List ClassFacts → List ClassState → Chain → ℕ → Option ℕ → ℕ → Type 0
Walks classes states whole left next count =
    (whole.above ≡ (chain_upwards left classes states next).above)
    × (length whole.unused ≡ count + length (chain_upwards left classes states next).unused)

abbrev pub Ends : Chain → ℕ → ClassState → Type 0
Ends whole count above = (whole.above ≡ above) × (length whole.unused ≡ count)

module _ (classes : List ClassFacts) (states : List ClassState) (whole : Chain) where
  ends : (left : ℕ) (next : Option ℕ) (count : ℕ) (above : ClassState)
      → chain_upwards left classes states next ≡ chain_end above → Walks classes states whole left next count
      → Ends whole count above
  ends left next count above is h =
      let none : count + length (chain_upwards left classes states next).unused ≡ count + 0 =
      ap (λ (c : Chain). count + length c.unused) is in
      (h.0 ∙ ap (λ (c : Chain). c.above) is, omega (arith, h.1, none))

  pub walk-none : (left : ℕ) (next : Option ℕ) (count : ℕ) → next ≡ None → Walks classes states whole left next count
      → Ends whole count Done
  unfolding chain_upwards
  walk-none left next count e h =
      ends left None count Done (by left) (subst (λ (next : Option ℕ). Walks classes states whole left next count) e h)
    where
      by : (left : ℕ) → chain_upwards left classes states None ≡ chain_end Done
      by zero = refl
      by (suc left) = refl

  pub walk-over : (left : ℕ) (next : Option ℕ) (count : ℕ) → left ≡ 0 → Walks classes states whole left next count
      → Ends whole count Done
  unfolding chain_upwards
  walk-over left next count e h = ends left next count Done (by left e) h where
    by : (left : ℕ) → left ≡ 0 → chain_upwards left classes states next ≡ chain_end Done
    by zero e = refl
    by (suc left) e = absurd (omega (arith, e))

  at : (left class : ℕ) (state : ClassState) → state ≡ slice_index_or states class Done
      → chain_upwards (suc left) classes states (Some class)
      ≡ chain_with class state (chain_upwards left classes states (superclass_in classes class))
  unfolding chain_upwards
  at left class state e =
      ap (λ state. chain_with class state (chain_upwards left classes states (superclass_in classes class))) (sym e)

  stops : (class : ℕ) (state : ClassState) (further : Chain) → state ≢ Unused
      → chain_with class state further ≡ chain_end state
  stops class Unused further other = absurd (other refl)
  stops class (Running t) further other = refl
  stops class Done further other = refl
  stops class Failed further other = refl

  module _ (steps passed : ℕ) (next : Option ℕ) (class count : ℕ) (state : ClassState) (inside : passed < steps)
      (e : next ≡ Some class) (is : state ≡ slice_index_or states class Done)
      (h : Walks classes states whole (steps - passed) next count) where
    one : Walks classes states whole (suc (steps - (passed + 1))) (Some class) count
    one =
        let left : steps - passed ≡ suc (steps - (passed + 1)) = omega (arith, inside) in
        subst (λ (next : Option ℕ). Walks classes states whole (suc (steps - (passed + 1))) next count) e
        (subst (λ (left : ℕ). Walks classes states whole left next count) left h)

    pub walk-ends : state ≢ Unused → Ends whole count state
    walk-ends other =
        ends (suc (steps - (passed + 1))) (Some class) count state
        (at (steps - (passed + 1)) class state is
        ∙ stops class state (chain_upwards (steps - (passed + 1)) classes states (superclass_in classes class)) other)
        one

    pub walk-next : state ≡ Unused → (above : Option ℕ) → above ≡ superclass_in classes class
        → Walks classes states whole (steps - (passed + 1)) above (count + 1)
    walk-next unused above above_is =
        let further = chain_upwards (steps - (passed + 1)) classes states (superclass_in classes class) in
        let is : chain_upwards (suc (steps - (passed + 1))) classes states (Some class)
        ≡ chain_with class Unused further =
        at (steps - (passed + 1)) class state is ∙ ap (λ state. chain_with class state further) unused in
        let more : count + length (chain_upwards (suc (steps - (passed + 1))) classes states (Some class)).unused
        ≡ count + suc (length further.unused) = ap (λ (c : Chain). count + length c.unused) is in
        subst (λ (above : Option ℕ). Walks classes states whole (steps - (passed + 1)) above (count + 1)) (sym above_is)
        (one.0 ∙ ap (λ (c : Chain). c.above) is, omega (arith, one.1, more))

-- ---- the classes that were never used are those of a claim

module _ (classes : List ClassFacts) (states : List ClassState) where
  pub unused-upwards : (steps : ℕ) (class : Option ℕ)
      → (chain_upwards steps classes states class).unused
      ≡ classes_upwards classes (length (chain_upwards steps classes states class).unused) class
  unfolding chain_upwards classes_upwards
  unused-upwards zero class = refl
  unused-upwards (suc steps) None = refl
  unused-upwards (suc steps) (Some class) =
      by (slice_index_or states class Done) (chain_upwards steps classes states (superclass_in classes class))
      (unused-upwards steps (superclass_in classes class))
    where
      by : (state : ClassState) (further : Chain)
          → further.unused ≡ classes_upwards classes (length further.unused) (superclass_in classes class)
          → (chain_with class state further).unused
          ≡ classes_upwards classes (length (chain_with class state further).unused) (Some class)
      by Unused further e = ap (λ rest. class ∷ rest) e
      by (Running t) further e = refl
      by Done further e = refl
      by Failed further e = refl

  state-within : (states : List ClassState) (class : ℕ) → slice_index_or states class Done ≡ Unused
      → class < length states
  state-within [] class e = cc
  state-within (s ∷ ss) zero e = omega arith
  state-within (s ∷ ss) (suc class) e = let less = state-within ss class e in omega (arith, less)

  unused-listed : (steps : ℕ) (class : Option ℕ)
      → AreBelow (length states) (chain_upwards steps classes states class).unused
  unfolding chain_upwards
  unused-listed zero class = tt
  unused-listed (suc steps) None = tt
  unused-listed (suc steps) (Some class) =
      by (slice_index_or states class Done) refl (chain_upwards steps classes states (superclass_in classes class))
      (unused-listed steps (superclass_in classes class))
    where
      by : (state : ClassState) → slice_index_or states class Done ≡ state → (further : Chain)
          → AreBelow (length states) further.unused
          → AreBelow (length states) (chain_with class state further).unused
      by Unused e further h = (state-within states class e, h)
      by (Running t) e further h = tt
      by Done e further h = tt
      by Failed e further h = tt

pub walk-begins : (program : List ClassListing) (states : List ClassState) (class steps : ℕ)
    → steps ≡ length program + 24
    → Walks (class_tables program) states (chain_at program states class) (steps - 0) (Some class) 0
walk-begins program states class steps e =
    let same : suc (enough_steps program) ≡ steps - 0 = omega (arith, e) in
    subst (λ (left : ℕ). Walks (class_tables program) states (chain_at program states class) left (Some class) 0) same
    (refl, omega arith)

module _ (program : List ClassListing) (states : List ClassState) (class count : ℕ) (above : ClassState)
    (sized : length states ≡ length program) (found : Ends (chain_at program states class) count above) where
  is-claimed : (chain_at program states class).unused ≡ claimed program class count
  is-claimed =
      unused-upwards (class_tables program) states (suc (enough_steps program)) (Some class)
      ∙ ap (claimed program class) found.1

  pub chain-found : (let chain : Chain = record { unused = claimed program class count; above = above }
      in chain_at program states class ≡ chain)
  chain-found = by (chain_at program states class) is-claimed found.0 where
    by : (c : Chain) → c.unused ≡ claimed program class count → c.above ≡ above
        → (let chain : Chain = record { unused = claimed program class count; above = above } in c ≡ chain)
    by c u a = rw (← u, ← a) refl

  pub claim-found : AreClaimed program class count
  claim-found = record {
    whole = sym (ap (λ (cs : List ℕ). length cs) is-claimed) ∙ found.1;
    listed =
        subst (λ (n : ℕ). AreBelow n (claimed program class count)) sized
        (subst (AreBelow (length states)) is-claimed
        (unused-listed (class_tables program) states (suc (enough_steps program)) (Some class)));
  }
