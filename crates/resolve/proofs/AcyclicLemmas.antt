-- Classes of which none is above itself: what is above a class is more than what is above its parents.
use Rattle.std.proofs.Common.{◌≡◌, ◌⊎◌, inl, inr, ℕ, zero, suc, ◌<◌, ◌≤◌, List, [], ◌∷◌, Bool, true, false, not, ◌&&◌}
use Rattle.std.proofs.Common.{filter, length, Option, Some, None, is_none, is_some, refl, sym, ap, subst, arith, ◌∙◌}
use Rattle.std.specs.List.{flat_map, list_all}
use Rattle.std.specs.Option.{option_map, option_to_list}
use Rattle.model.specs.ClassListings.{ClassListing}
use Rattle.model.specs.Accepted.Cycles.{is_on_cycle}
use Rattle.model.specs.Classes.Builtin.{builtin_classes}
use Rattle.model.specs.Classes.Named.{builtin, is_named, listed, or_else, parents_in, parents_named, parents_of}
use Rattle.model.specs.Classes.Search.{interfaces_from, interfaces_in, interfaces_named}
use Rattle.model.specs.Classes.Subclass.{HasName, Subclass}
use Rattle.model.specs.Classes.Subclass.Subclass.{same, parent, through}
use Rattle.model.specs.Classes.Subclasses.{enough_steps, is_subclass}
use Rattle.model.proofs.SubclassTest.{Subclass-is_subclass, is_subclass-Subclass}
use Rattle.resolve.specs.Interfaces.{Ends, IsAcyclic}
use Rattle.resolve.specs.Interfaces.Ends.{ends}
use Rattle.resolve.proofs.ListLemmas.{all-found, count-all, count-less, found-any, none-fails, same-each}
use Rattle.resolve.proofs.NamedLemmas.{HasName as IsNamed, found}
use Rattle.resolve.proofs.ParentLemmas.{interfaces_named-listed, parents_in-builtin}
use Rattle.resolve.proofs.ReachedLemmas.{any-found, any-has}

differ : (b : Bool) → b ≡ true → b ≡ false → ⊥
differ b p q = cc

pub named-listed : (program : List ClassListing) (name : List ℕ) (c : ClassListing) → Some c ≡ listed program name
    → c.name ≡ name
named-listed program name c is = subst (λ (o : Option ClassListing). IsNamed name o) (sym is) (found name program)

pub parents-listed : (program : List ClassListing) (name : List ℕ) (c : ClassListing) → Some c ≡ listed program name
    → parents_named program name ≡ parents_of c
parents-listed program name c is = ap (λ (o : Option ClassListing). parents_in (or_else o (builtin name))) (sym is)

-- ---- how many classes are above one

abbrev pub rank : List ClassListing → List ℕ → ℕ
rank program name = length (filter (λ (c : ClassListing). is_subclass program name c.name) program)

module _ (program : List ClassListing) (acyclic : IsAcyclic program) where
  apart : (name p : List ℕ) (c : ClassListing) → Some c ≡ listed program name → HasName (parents_of c) p
      → is_subclass program p c.name ≡ false
  unfolding is_on_cycle
  apart name p c is h = by (is_subclass program p c.name) refl
    where
      by : (b : Bool) → is_subclass program p c.name ≡ b → b ≡ false
      by true e =
          absurd (differ (is_on_cycle program c) (any-has (λ parent. is_subclass program parent c.name) (parents_of c) p
          h e)
          (none-fails (is_on_cycle program) (is_named name) program c acyclic (sym is)))
      by false e = refl

  pub rank-less : (name p : List ℕ) (c : ClassListing) → Some c ≡ listed program name → HasName (parents_of c) p
      → rank program p < rank program name
  rank-less name p c is h =
      count-less (λ (d : ClassListing). is_subclass program p d.name) (λ (d : ClassListing). is_subclass program name
      d.name)
      (λ d below. Subclass-is_subclass program name d.name
      (through p (parent (subst (λ (names : List (List ℕ)). HasName names p) (sym (parents-listed program name c is))
      h))
      (is_subclass-Subclass program p d.name below)))
      program
      (found-any (is_named name) (λ (d : ClassListing). is_subclass program name d.name
      && not (is_subclass program p d.name)) program c (sym is)
      (alone (is_subclass program name c.name) (is_subclass program p c.name)
      (Subclass-is_subclass program name c.name (subst (λ (n : List ℕ). Subclass program name n)
      (sym (named-listed program name c is)) same))
      (apart name p c is h)))
    where
      alone : (a b : Bool) → a ≡ true → b ≡ false → (a && not b) ≡ true
      alone true true p q = cc
      alone true false p q = refl
      alone false b p q = cc

  rank-interface : (name i : List ℕ) → HasName (interfaces_named program name) i → rank program i < rank program name
  rank-interface name i h =
      by (listed program name) refl (subst (λ (names : List (List ℕ)). HasName names i)
      (interfaces_named-listed program name) h)
    where
      by : (c : Option ClassListing) → listed program name ≡ c → HasName (interfaces_in c) i
          → rank program i < rank program name
      by None e k = absurd k
      by (Some c) e k = rank-less name i c (sym e) (inr k)

  -- ---- superinterfaces to more steps than there are classes above

  nothing : (names : List (List ℕ)) → ((i : List ℕ) → HasName names i → ⊥) → interfaces_from 1 program names ≡
      interfaces_from 0 program names
  unfolding interfaces_from
  nothing [] none = refl
  nothing (i ∷ names) none = absurd (none i (inl refl))

  from-next : (steps : ℕ) (names : List (List ℕ))
      → interfaces_from (suc steps) program names
      ≡ flat_map (λ name. name ∷ interfaces_from steps program (interfaces_named program name)) names
  unfolding interfaces_from
  from-next steps names = refl

  stable : (steps : ℕ) (name : List ℕ) → rank program name ≤ steps
      → interfaces_from (suc steps) program (interfaces_named program name) ≡
      interfaces_from steps program (interfaces_named program name)
  stable zero name few =
      nothing (interfaces_named program name)
      (λ i h. let less : rank program i < rank program name = rank-interface name i h
      in absurd (omega (arith, less, few)))
  stable (suc n) name few =
      from-next (suc n) (interfaces_named program name)
      ∙ same-each (λ i. i ∷ interfaces_from (suc n) program (interfaces_named program i)) (λ i. i ∷
      interfaces_from n program (interfaces_named program i))
      (interfaces_named program name)
      (λ i h.
      let less : rank program i < rank program name = rank-interface name i h in
      ap (λ l. i ∷ l) (stable n i (omega (arith, less, few))))
      ∙ sym (from-next n (interfaces_named program name))

  -- where no class is above itself, one step more gives nothing more
  pub enough : (name : List ℕ)
      → flat_map (λ i. i ∷ interfaces_from (enough_steps program) program (interfaces_named program i))
      (interfaces_named program name)
      ≡ interfaces_from (enough_steps program) program (interfaces_named program name)
  enough name =
      let few : rank program name ≤ length program = count-all (λ (c : ClassListing). is_subclass program name c.name)
      program in
      sym (from-next (enough_steps program) (interfaces_named program name))
      ∙ stable (enough_steps program) name (omega (arith, few))

-- ---- upwards from names from which it ends

module _ (program : List ClassListing) where
  abbrev IsListed : List ℕ → Type 0
  IsListed name = is_some (listed program name) ≡ true

  abbrev IsApart : Type 0
  IsApart = list_all (λ (c : ClassListing). is_none (listed program c.superclass)) builtin_classes ≡ true

  abbrev IsUnlisted : List ℕ → Type 0
  IsUnlisted name = is_none (listed program name) ≡ true

  own-parent : IsApart → (name p : List ℕ) (c : Option ClassListing) → builtin name ≡ c
      → HasName (option_to_list (option_map (λ (c : ClassListing). c.superclass) c)) p → IsUnlisted p
  own-parent all name p None is h = absurd h
  own-parent all name p (Some c) is (inl e) =
      subst IsUnlisted e (all-found (λ (c : ClassListing). is_none (listed program c.superclass)) (is_named name)
      builtin_classes c all is)
  own-parent all name p (Some c) is (inr h) = absurd h

  unlisted-parent : IsApart → (name p : List ℕ) (c : Option ClassListing) → listed program name ≡ c → is_none c ≡ true
      → HasName (parents_in (or_else c (builtin name))) p
      → IsUnlisted p
  unlisted-parent all name p None is none h =
      own-parent all name p (builtin name) refl (subst (λ (names : List (List ℕ)). HasName names p)
      (parents_in-builtin name) h)
  unlisted-parent all name p (Some c) is none h = cc

  unlisted-above : IsApart → {name above : List ℕ} → Subclass program name above → IsUnlisted name → IsUnlisted above
  unlisted-above all same none = none
  unlisted-above all (parent {name = name} {above = above} h) none = unlisted-parent all name above
      (listed program name) refl none h
  unlisted-above all (through middle p q) none = unlisted-above all q (unlisted-above all p none)

  abbrev FirstStep : List ℕ → List ℕ → Type 0
  FirstStep name above = (name ≡ above) ⊎ ((q : List ℕ) × HasName (parents_named program name) q
      × Subclass program q above)

  first-step : {name above : List ℕ} → Subclass program name above → FirstStep name above
  first-step same = inl refl
  first-step (parent {name = name} {above = above} h) = inr (above, h, same)
  first-step (through {name = name} {above = above} middle p q) =
      elim (first-step p) [
        | inl e ↦ subst (λ (n : List ℕ). FirstStep n above) (sym e) (first-step q)
        | inr step ↦ inr (step.0, step.1, through middle step.2 q)
      ]

  listed-or : (name : List ℕ) → IsListed name ⊎ IsUnlisted name
  listed-or name = by (listed program name)
    where
      by : (c : Option ClassListing) → (is_some c ≡ true) ⊎ (is_none c ≡ true)
      by None = inr refl
      by (Some c) = inl refl

  both : (c : Option ClassListing) → is_some c ≡ true → is_none c ≡ true → ⊥
  both None p q = cc
  both (Some c) p q = cc

  no-return : IsApart → {name : List ℕ} → Ends program name → IsListed name → (p : List ℕ)
      → HasName (parents_named program name) p → Subclass program p name → ⊥
  no-return all (ends {name = name} rest) there p h below =
      elim (listed-or p) [
        | inl inside ↦
            elim (first-step below) [
              | inl e ↦ no-return all (rest p h inside)
                  inside p (subst (λ (n : List ℕ). HasName (parents_named program n) p) (sym e) h) same
              | inr step ↦ no-return all (rest p h inside) inside step.0 step.1 (through name step.2 (parent h))
            ]
        | inr none ↦ both (listed program name) there (unlisted-above all below none)
      ]

  pub ends-apart : IsApart → (c : ClassListing) → Some c ≡ listed program c.name → Ends program c.name
      → is_on_cycle program c ≡ false
  unfolding is_on_cycle
  ends-apart all c is ending = by (is_on_cycle program c) refl
    where
      by : (b : Bool) → is_on_cycle program c ≡ b → b ≡ false
      by true e =
          let found : (p : List ℕ) × HasName (parents_of c) p × (is_subclass program p c.name ≡ true) =
          any-found (λ parent. is_subclass program parent c.name) (parents_of c) e in
          absurd (no-return all ending (ap is_some (sym is)) found.0
          (subst (λ (names : List (List ℕ)). HasName names found.0) (sym (parents-listed program c.name c is)) found.1)
          (is_subclass-Subclass program found.0 c.name found.2))
      by false e = refl
