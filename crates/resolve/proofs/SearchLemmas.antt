-- Searching a list of classes, part by part.
use Rattle.std.proofs.Common.{◌≡◌, ℕ, zero, suc, ◌+◌, ◌-◌, ◌<◌, ◌≤◌, List, [], ◌∷◌, ◌++◌, Bool, true, false, ◌||◌}
use Rattle.std.proofs.Common.{Option, Some, None, refl, sym, ap, arith, ◌∙◌}
use Rattle.std.specs.List.{flat_map}
use Rattle.std.specs.Str.{bytes_eq}
use Rattle.std.proofs.lemmas.Slice.Eq.{bytes_eq-Decides}
use Rattle.model.specs.ClassListings.{ClassListing}
use Rattle.model.specs.Classes.Named.{or_else, class_named}
use Rattle.model.specs.Classes.Search.{Declared, declared_in, first_declared, upwards}
use Rattle.resolve.specs.Reached.{has_name, with_name, with_names}

or_else-none : {A : Type 0} (x : Option A) → or_else x None ≡ x
or_else-none None = refl
or_else-none (Some x) = refl

or_else-assoc : {A : Type 0} (x y z : Option A) → or_else x (or_else y z) ≡ or_else (or_else x y) z
or_else-assoc None y z = refl
or_else-assoc (Some x) y z = refl

-- what comes a second time changes nothing
or_else-again : {A : Type 0} (x y : Option A) → or_else (or_else x y) x ≡ or_else x y
or_else-again None y = or_else-none y
or_else-again (Some x) y = refl

module _ {M : Type 0} (program : List ClassListing) (member : ClassListing → Option M) where
  abbrev first : List (List ℕ) → Option (Declared M)
  first names = first_declared program member names

  abbrev one : List ℕ → Option (Declared M)
  one name = declared_in member name (class_named program name)

  pub first_append : (xs ys : List (List ℕ)) → first (xs ++ ys) ≡ or_else (first xs) (first ys)
  first_append [] ys = refl
  first_append (x ∷ xs) ys = ap (or_else (one x)) (first_append xs ys) ∙ or_else-assoc (one x) (first xs) (first ys)

  -- ---- names that stand there once are as good as all of them

  known-again : (names : List (List ℕ)) (name : List ℕ) → has_name names name ≡ true → or_else (first names) (one name)
      ≡ first names
  known-again [] name h = cc
  known-again (x ∷ xs) name h = by (bytes_eq name x) refl h (λ k. known-again xs name k)
    where
      by : (b : Bool) → bytes_eq name x ≡ b → (b || has_name xs name) ≡ true
          → (has_name xs name ≡ true → or_else (first xs) (one name) ≡ first xs)
          → or_else (first (x ∷ xs)) (one name) ≡ first (x ∷ xs)
      by true e h rest =
          let is : name ≡ x = (bytes_eq-Decides name x).0 e in
          ap (λ (n : List ℕ). or_else (first (x ∷ xs)) (one n)) is ∙ or_else-again (one x) (first xs)
      by false e h rest =
          sym (or_else-assoc (one x) (first xs) (one name)) ∙ ap (or_else (one x)) (rest h)

  first-with_name : (names : List (List ℕ)) (name : List ℕ) (there : Bool) → has_name names name ≡ there
      → first (with_name names name) ≡ or_else (first names) (one name)
  first-with_name names name true e = rw e (sym (known-again names name e))
  first-with_name names name false e = rw e (first_append names (name ∷ [])
      ∙ ap (or_else (first names)) (or_else-none (one name)))

  first-with_names : (names more : List (List ℕ)) → first (with_names names more) ≡ or_else (first names) (first more)
  first-with_names names [] = sym (or_else-none (first names))
  first-with_names names (x ∷ more) =
      first-with_names (with_name names x) more
      ∙ ap (λ (o : Option (Declared M)). or_else o (first more)) (first-with_name names x (has_name names x) refl)
      ∙ sym (or_else-assoc (first names) (one x) (first more))

  pub first-once : (names : List (List ℕ)) → first (with_names [] names) ≡ first names
  first-once names = first-with_names [] names

  -- ---- from a class to its superclass, in each an order of its own

  found-again : (name : List ℕ) (c : ClassListing) → Some c ≡ class_named program name → c.name ≡ name
      → declared_in member c.name (Some c) ≡ one name
  found-again name c found is = rw (← found, is) refl

  -- one class alone, and with what follows it
  pub first-one : (name : List ℕ) (c : ClassListing) → Some c ≡ class_named program name → c.name ≡ name
      → declared_in member c.name (Some c) ≡ first (name ∷ [])
  first-one name c found is = found-again name c found is ∙ sym (or_else-none (one name))

  pub none-one : (name : List ℕ) → None ≡ class_named program name → None ≡ first (name ∷ [])
  none-one name found = rw (← found) refl

  pub singles : (names : List (List ℕ)) → flat_map (λ (name : List ℕ). name ∷ []) names ≡ names
  singles [] = refl
  singles (x ∷ xs) = ap (λ (ys : List (List ℕ)). x ∷ ys) (singles xs)

  walk-on : (order : List ℕ → List (List ℕ)) (steps more : ℕ) (name : List ℕ) (c : ClassListing)
      → Some c ≡ class_named program name → steps ≡ suc more
      → first (flat_map order (upwards steps program name))
      ≡ or_else (first (order name)) (first (flat_map order (upwards more program c.superclass)))
  unfolding upwards
  walk-on order steps more name c found e = rw (
    e,
    ← found,
  ) (first_append (order name) (flat_map order (upwards more program c.superclass)))

  walk-missing : (order : List ℕ → List (List ℕ)) (steps : ℕ) (name : List ℕ) → None ≡ class_named program name
      → None ≡ first (flat_map order (upwards steps program name))
  unfolding upwards
  walk-missing order zero name found = refl
  walk-missing order (suc steps) name found = rw (← found) refl

  walk-done : (order : List ℕ → List (List ℕ)) (steps : ℕ) (name : List ℕ) → steps ≡ 0
      → None ≡ first (flat_map order (upwards steps program name))
  unfolding upwards
  walk-done order steps name e = rw e refl

  -- what is left of a walk of so many steps finds what the whole walk finds
  abbrev pub Walks : (List ℕ → List (List ℕ)) → ℕ → ℕ → List ℕ → Option (Declared M) → Type 0
  Walks order steps passed name whole = first (flat_map order (upwards (steps - passed) program name)) ≡ whole

  pub walk-found : (order : List ℕ → List (List ℕ)) (steps passed : ℕ) (name : List ℕ) (c : ClassListing)
      (x : Declared M) (whole : Option (Declared M))
      → Walks order steps passed name whole → Some c ≡ class_named program name → passed < steps
      → Some x ≡ first (order name) → Some x ≡ whole
  walk-found order steps passed name c x whole walks found inside here =
      let more : ℕ = steps - (passed + 1) in
      ap (λ (o : Option (Declared M)). or_else o (first (flat_map order (upwards more program c.superclass)))) here
      ∙ sym (walk-on order (steps - passed) more name c found (omega arith)) ∙ walks

  pub walk-next : (order : List ℕ → List (List ℕ)) (steps passed : ℕ) (name above : List ℕ) (c : ClassListing)
      (whole : Option (Declared M))
      → Walks order steps passed name whole → Some c ≡ class_named program name → passed < steps
      → None ≡ first (order name) → above ≡ c.superclass
      → Walks order steps (passed + 1) above whole
  walk-next order steps passed name above c whole walks found inside here is =
      let more : ℕ = steps - (passed + 1) in
      ap (λ (n : List ℕ). first (flat_map order (upwards more program n))) is
      ∙ ap (λ (o : Option (Declared M)). or_else o (first (flat_map order (upwards more program c.superclass)))) here
      ∙ sym (walk-on order (steps - passed) more name c found (omega arith)) ∙ walks

  pub walk-ends : (order : List ℕ → List (List ℕ)) (steps passed : ℕ) (name : List ℕ) (whole : Option (Declared M))
      → Walks order steps passed name whole → None ≡ class_named program name → None ≡ whole
  walk-ends order steps passed name whole walks found = walk-missing order (steps - passed) name found ∙ walks

  pub walk-over : (order : List ℕ → List (List ℕ)) (steps passed : ℕ) (name : List ℕ) (whole : Option (Declared M))
      → Walks order steps passed name whole → steps ≤ passed → None ≡ whole
  walk-over order steps passed name whole walks done = walk-done order (steps - passed) name (omega arith) ∙ walks
