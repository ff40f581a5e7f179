-- Seeking a class from a class upwards.
use Rattle.std.proofs.Common.{◌≡◌, ℕ, zero, suc, ◌+◌, ◌-◌, ◌<◌, ◌≤◌, List, [], ◌∷◌, Bool, true, false, ◌||◌, Option}
use Rattle.std.proofs.Common.{Some, None, refl, sym, ap, arith, ◌∙◌}
use Rattle.std.specs.List.{list_any}
use Rattle.std.specs.Str.{bytes_eq}
use Rattle.model.specs.ClassListings.{ClassListing}
use Rattle.model.specs.Classes.Named.{class_named}
use Rattle.model.specs.Classes.Search.{upwards, with_superclasses}

-- what is left of a walk of so many steps tells whether the class is there
abbrev pub Seeks : List ClassListing → ℕ → ℕ → List ℕ → List ℕ → Bool → Type 0
Seeks program steps passed name above whole = list_any (bytes_eq above) (upwards (steps - passed) program name) ≡ whole

module _ (program : List ClassListing) (steps passed : ℕ) (name above : List ℕ) (whole : Bool)
    (h : Seeks program steps passed name above whole) where
  on : (n : ℕ) (c : ClassListing) → Some c ≡ class_named program name → upwards (suc n) program name
      ≡ name ∷ upwards n program c.superclass
  unfolding upwards
  on n c found = ap (λ (o : Option ClassListing). with_superclasses name (λ superclass. upwards n program superclass) o)
      (sym found)

  missing : (n : ℕ) → None ≡ class_named program name → upwards n program name ≡ []
  unfolding upwards
  missing zero found = refl
  missing (suc n) found = ap (λ (o : Option ClassListing). with_superclasses name
      (λ superclass. upwards n program superclass) o) (sym found)

  over : (n : ℕ) → n ≡ 0 → upwards n program name ≡ []
  unfolding upwards
  over n e = rw e refl

  stepped : (c : ClassListing) → Some c ≡ class_named program name → passed < steps
      → (bytes_eq above name || list_any (bytes_eq above) (upwards (steps - (passed + 1)) program c.superclass)) ≡ whole
  stepped c found inside =
      let n : ℕ = steps - (passed + 1) in
      let one : steps - passed ≡ suc n = omega (arith, inside) in
      ap (list_any (bytes_eq above)) (sym (on n c found))
      ∙ ap (λ (m : ℕ). list_any (bytes_eq above) (upwards m program name)) (sym one) ∙ h

  pub seek-here : (c : ClassListing) → Some c ≡ class_named program name → passed < steps → bytes_eq above name ≡ true
      → true ≡ whole
  seek-here c found inside e =
      ap (λ (b : Bool). b || list_any (bytes_eq above) (upwards (steps - (passed + 1)) program c.superclass)) (sym e)
      ∙ stepped c found inside

  pub seek-next : (next : List ℕ) (c : ClassListing) → Some c ≡ class_named program name → passed < steps
      → bytes_eq above name ≡ false
      → next ≡ c.superclass → Seeks program steps (passed + 1) next above whole
  seek-next next c found inside e is =
      ap (λ (m : List ℕ). list_any (bytes_eq above) (upwards (steps - (passed + 1)) program m)) is
      ∙ ap (λ (b : Bool). b || list_any (bytes_eq above) (upwards (steps - (passed + 1)) program c.superclass)) (sym e)
      ∙ stepped c found inside

  pub seek-ends : None ≡ class_named program name → false ≡ whole
  seek-ends found = ap (list_any (bytes_eq above)) (sym (missing (steps - passed) found)) ∙ h

  pub seek-over : steps ≤ passed → false ≡ whole
  seek-over done =
      let none : steps - passed ≡ 0 = omega (arith, done) in
      ap (list_any (bytes_eq above)) (sym (over (steps - passed) none)) ∙ h
