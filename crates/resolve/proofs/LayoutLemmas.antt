-- The fields of objects, gathered from the class upwards and then turned.
use Rattle.std.proofs.Common.{◌≡◌, ℕ, zero, suc, ◌+◌, ◌-◌, ◌<◌, ◌≤◌, List, [], ◌∷◌, ◌++◌, Option, Some, None, reverse}
use Rattle.std.proofs.Common.{refl, sym, ap, arith, ◌∙◌}
use Rattle.std.specs.List.{flat_map}
use Rattle.std.proofs.lemmas.Grind.{flat_map-append}
use Rattle.std.proofs.lemmas.List.{append_assoc, append-nil, reverse-append, reverse-reverse}
use Rattle.model.specs.declared.listings.Field.{Field}
use Rattle.model.specs.ClassListings.{ClassListing}
use Rattle.model.specs.Classes.Layout.{instance_fields_in, layout}
use Rattle.model.specs.Classes.Named.{class_named}
use Rattle.model.specs.Classes.Search.{Declared, superclasses, upwards, with_superclasses}
use Rattle.resolve.specs.Layouts.{fields_in, fields_last_first}

-- ---- from a class to its superclass

-- what is left of a walk of so many steps completes the fields
abbrev pub Gathers : List ClassListing → ℕ → ℕ → List ℕ → List (Declared Field) → List (Declared Field) → Type 0
Gathers program steps passed name items whole = items ++ flat_map (fields_last_first program)
    (upwards (steps - passed) program name) ≡ whole

module _ (program : List ClassListing) (steps passed : ℕ) (name : List ℕ) (items whole : List (Declared Field))
    (h : Gathers program steps passed name items whole) where
  on : (n : ℕ) (c : ClassListing) → Some c ≡ class_named program name
      → flat_map (fields_last_first program) (upwards (suc n) program name)
      ≡ fields_last_first program name ++ flat_map (fields_last_first program) (upwards n program c.superclass)
  unfolding upwards
  on n c found = ap (λ (o : Option ClassListing). flat_map (fields_last_first program)
      (with_superclasses name (λ above. upwards n program above) o)) (sym found)

  missing : (n : ℕ) → None ≡ class_named program name → flat_map (fields_last_first program) (upwards n program name)
      ≡ []
  unfolding upwards
  missing zero found = refl
  missing (suc n) found = rw (← found) refl

  over : (n : ℕ) → n ≡ 0 → flat_map (fields_last_first program) (upwards n program name) ≡ []
  unfolding upwards
  over n e = rw e refl

  pub gather-next : (above : List ℕ) (c : ClassListing) (more : List (Declared Field))
      → Some c ≡ class_named program name → c.name ≡ name → passed < steps
      → more ≡ items ++ reverse (fields_in c.name c.fields) → above ≡ c.superclass
      → Gathers program steps (passed + 1) above more whole
  gather-next above c more found named inside e is =
      let n : ℕ = steps - (passed + 1) in
      let one : steps - passed ≡ suc n = omega (arith, inside) in
      let rest : List (Declared Field) = flat_map (fields_last_first program) (upwards n program c.superclass) in
      let own : fields_last_first program name ≡ reverse (fields_in c.name c.fields) =
      ap (λ (o : Option ClassListing). reverse (instance_fields_in name o)) (sym found)
      ∙ ap (λ (m : List ℕ). reverse (instance_fields_in m (Some c))) (sym named) in
      ap (λ (m : List ℕ). more ++ flat_map (fields_last_first program) (upwards n program m)) is
      ∙ ap (λ (l : List (Declared Field)). l ++ rest) e ∙ append_assoc items (reverse (fields_in c.name c.fields)) rest
      ∙ ap (λ (l : List (Declared Field)). items ++ (l ++ rest)) (sym own)
      ∙ ap (λ (l : List (Declared Field)). items ++ l) (sym (on n c found))
      ∙ ap (λ (m : ℕ). items ++ flat_map (fields_last_first program) (upwards m program name)) (sym one) ∙ h

  pub gather-ends : None ≡ class_named program name → items ≡ whole
  gather-ends found = sym (append-nil items) ∙ ap (λ (l : List (Declared Field)). items ++ l)
      (sym (missing (steps - passed) found)) ∙ h

  pub gather-over : steps ≤ passed → items ≡ whole
  gather-over done =
      let none : steps - passed ≡ 0 = omega (arith, done) in
      sym (append-nil items) ∙ ap (λ (l : List (Declared Field)). items ++ l) (sym (over (steps - passed) none)) ∙ h

-- ---- turned

module _ {X Y : Type 0} (f : X → List Y) where
  abbrev last_first : X → List Y
  last_first x = reverse (f x)

  -- parts that were gathered back to front, each last first, are the parts in order once the whole is turned
  turned_parts : (xs : List X) → reverse (flat_map last_first xs) ≡ flat_map f (reverse xs)
  turned_parts [] = refl
  turned_parts (x ∷ xs) =
      reverse-append (reverse (f x)) (flat_map last_first xs)
      ∙ ap (λ l. reverse (flat_map last_first xs) ++ l) (reverse-reverse (f x))
      ∙ ap (λ l. l ++ f x) (turned_parts xs)
      ∙ ap (λ l. flat_map f (reverse xs) ++ l) (sym (append-nil (f x)))
      ∙ sym (flat_map-append f (reverse xs) (x ∷ []))
      ∙ ap (flat_map f) (sym (reverse-append (x ∷ []) xs))

pub turned : (program : List ClassListing) (name : List ℕ)
    → reverse (flat_map (fields_last_first program) (superclasses program name)) ≡ layout program name
turned program name = turned_parts (λ (n : List ℕ). instance_fields_in n (class_named program n))
    (superclasses program name)
