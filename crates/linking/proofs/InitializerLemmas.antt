-- Which classes want initialising: by the names upwards that are those of classes with an initializer.
use Rattle.std.proofs.Common.{◌≡◌, ℕ, zero, suc, ◌+◌, ◌-◌, ◌<◌, ◌≤◌, List, [], ◌∷◌, Bool, true, false, ◌&&◌, ◌||◌, not}
use Rattle.std.proofs.Common.{Option, Some, None, refl, arith, ap, sym, ◌∙◌}
use Rattle.std.specs.List.{list_any}
use Rattle.std.specs.Str.{bytes_eq}
use Rattle.model.specs.ClassListings.{ClassListing}
use Rattle.model.specs.Classes.Flags.{is_interface}
use Rattle.model.specs.Classes.Named.{class_named}
use Rattle.model.specs.Classes.Search.{superclasses, upwards, with_superclasses}
use Rattle.model.specs.Initialisation.{declares_initializer, wants_initialising}
use Rattle.linking.specs.Initializers.{declares_named}

-- ---- whether a test passes at one of the names upwards

module _ (test : List ℕ → Bool) (program : List ClassListing) where
  on : (n : ℕ) (name : List ℕ) (c : ClassListing) → Some c ≡ class_named program name
      → list_any test (upwards (suc n) program name) ≡ (test name || list_any test (upwards n program c.superclass))
  unfolding upwards
  on n name c found = ap (λ (o : Option ClassListing). list_any test
      (with_superclasses name (λ above. upwards n program above) o)) (sym found)

  missing : (n : ℕ) (name : List ℕ) → None ≡ class_named program name → list_any test (upwards n program name) ≡ false
  unfolding upwards
  missing zero name found = refl
  missing (suc n) name found = ap (λ (o : Option ClassListing). list_any test
      (with_superclasses name (λ above. upwards n program above) o)) (sym found)

  over : (n : ℕ) (name : List ℕ) → n ≡ 0 → list_any test (upwards n program name) ≡ false
  unfolding upwards
  over n name e = rw e refl

  module _ (steps passed : ℕ) (name : List ℕ) (whole : Bool) (h : list_any test (upwards (steps - passed) program name)
      ≡ whole) where
    one : (c : ClassListing) → Some c ≡ class_named program name → passed < steps
        → (test name || list_any test (upwards (steps - (passed + 1)) program c.superclass)) ≡ whole
    one c found inside =
        let next : steps - passed ≡ suc (steps - (passed + 1)) = omega (arith, inside) in
        sym (on (steps - (passed + 1)) name c found) ∙ ap (λ (n : ℕ). list_any test (upwards n program name)) (sym next)
        ∙ h

    pub upwards-found : (c : ClassListing) → Some c ≡ class_named program name → passed < steps → true ≡ test name
        → true ≡ whole
    upwards-found c found inside passes =
        ap (λ b. b || list_any test (upwards (steps - (passed + 1)) program c.superclass)) passes ∙ one c found inside

    pub upwards-next : (c : ClassListing) (above : List ℕ) → Some c ≡ class_named program name → passed < steps
        → false ≡ test name → above ≡ c.superclass
        → list_any test (upwards (steps - (passed + 1)) program above) ≡ whole
    upwards-next c above found inside fails is =
        ap (λ (a : List ℕ). list_any test (upwards (steps - (passed + 1)) program a)) is
        ∙ ap (λ b. b || list_any test (upwards (steps - (passed + 1)) program c.superclass)) fails ∙ one c found inside

    pub upwards-ends : None ≡ class_named program name → false ≡ whole
    upwards-ends found = sym (missing (steps - passed) name found) ∙ h

    pub upwards-over : steps ≤ passed → false ≡ whole
    upwards-over done = let none : steps - passed ≡ 0 = omega (arith, done) in sym (over (steps - passed) name none) ∙ h

-- ---- one of these with one of those, and one of those with one of these

or-or : (a b c d : Bool) → ((a || b) || (c || d)) ≡ ((a || c) || (b || d))
or-or true b c d = refl
or-or false true true d = refl
or-or false true false d = refl
or-or false false true d = refl
or-or false false false d = refl

module _ {B : Type 0} where
  any-or : (f g : B → Bool) (ys : List B) → list_any (λ y. f y || g y) ys ≡ (list_any f ys || list_any g ys)
  any-or f g [] = refl
  any-or f g (y ∷ ys) = ap (λ b. (f y || g y) || b) (any-or f g ys) ∙ or-or (f y) (g y) (list_any f ys) (list_any g ys)

  any-no : (ys : List B) → list_any (λ (y : B). false) ys ≡ false
  any-no [] = refl
  any-no (y ∷ ys) = any-no ys

  any-and : (b : Bool) (f : B → Bool) (ys : List B) → (b && list_any f ys) ≡ list_any (λ y. b && f y) ys
  any-and true f ys = refl
  any-and false f ys = sym (any-no ys)

module _ {A B : Type 0} where
  pub any-any : (test : A → Bool) (meets : A → B → Bool) (xs : List A) (ys : List B)
      → list_any (λ x. test x && list_any (meets x) ys) xs ≡ list_any (λ y. list_any (λ x. test x && meets x y) xs) ys
  any-any test meets [] ys = sym (any-no ys)
  any-any test meets (x ∷ xs) ys =
      ap (λ b. b || list_any (λ a. test a && list_any (meets a) ys) xs) (any-and (test x) (meets x) ys)
      ∙ ap (λ b. list_any (λ y. test x && meets x y) ys || b) (any-any test meets xs ys)
      ∙ sym (any-or (λ y. test x && meets x y) (λ y. list_any (λ a. test a && meets a y) xs) ys)

pub wants-upwards : (program : List ClassListing) (c : ClassListing)
    → (list_any (declares_named program) (superclasses program c.name) && not (is_interface c))
    ≡ wants_initialising program c
wants-upwards program c =
    ap (λ b. b && not (is_interface c))
    (sym (any-any declares_initializer (λ (above : ClassListing). bytes_eq above.name) program
    (superclasses program c.name)))
