-- What is above a class: walked from superclass to superclass, with what is above the superinterfaces of each.
use Rattle.std.proofs.Common.{◌≡◌, ◌⊎◌, inl, inr, ℕ, zero, suc, ◌+◌, ◌-◌, ◌<◌, ◌≤◌, List, [], ◌∷◌, ◌++◌, slice_get}
use Rattle.std.proofs.Common.{length, Bool, true, false, Option, Some, None, refl, sym, ap, subst, ◌∙◌, arith}
use Rattle.std.specs.List.{list_any}
use Rattle.std.specs.Option.{option_map}
use Rattle.std.specs.Str.{bytes_eq}
use Rattle.std.proofs.lemmas.Slice.Eq.{bytes_eq-Decides}
use Rattle.model.specs.ClassListings.{ClassListing}
use Rattle.model.specs.Classes.Named.{class_named, listed, parents_in, parents_named}
use Rattle.model.specs.Classes.Search.{interfaces_in, interfaces_named}
use Rattle.model.specs.Classes.Subclass.{HasName, Subclass}
use Rattle.model.specs.Classes.Subclass.Subclass.{same, parent, through}
use Rattle.model.specs.Classes.Subclasses.{enough_steps, is_within, is_subclass}
use Rattle.model.proofs.SubclassTest.{Subclass-is_subclass, is_subclass-Subclass, is_within-Subclass}
use Rattle.resolve.specs.Above.{AreAbove, IsAbove}
use Rattle.resolve.specs.Reached.{has_name, is_one_below}
use Rattle.resolve.proofs.ParentLemmas.{interfaces_named-listed}
use Rattle.resolve.proofs.ReachedLemmas.{any-found, any-has, or-cases, same-bool}

-- ---- the names beside each class

pub above-more : (program cs : List ClassListing) (sets : List (List (List ℕ))) (c : ClassListing)
    (names : List (List ℕ)) → AreAbove program cs sets
    → IsAbove program c names → AreAbove program (cs ++ c ∷ []) (sets ++ names ∷ [])
above-more program [] [] c names all one = (one, tt)
above-more program [] (s ∷ sets) c names all one = absurd all
above-more program (x ∷ cs) [] c names all one = absurd all
above-more program (x ∷ cs) (s ∷ sets) c names all one = (all.0, above-more program cs sets c names all.1 one)

-- what stands beside a class, where there is one
abbrev pub IsBeside : List ClassListing → Option ClassListing → Option (List (List ℕ)) → Type 0
IsBeside program None None = Unit {0}
IsBeside program None (Some names) = ⊥
IsBeside program (Some c) None = ⊥
IsBeside program (Some c) (Some names) = IsAbove program c names

beside : (program cs : List ClassListing) (sets : List (List (List ℕ))) (n : ℕ) → AreAbove program cs sets
    → IsBeside program (slice_get cs n) (slice_get sets n)
beside program [] [] n all = tt
beside program [] (s ∷ sets) n all = absurd all
beside program (c ∷ cs) [] n all = absurd all
beside program (c ∷ cs) (s ∷ sets) zero all = all.0
beside program (c ∷ cs) (s ∷ sets) (suc n) all = beside program cs sets n all.1

beside-named : (program : List ClassListing) (name x : List ℕ) (c : Option ClassListing)
    (names : Option (List (List ℕ))) (set : List (List ℕ))
    → IsBeside program c names → Some set ≡ names → has_name set x ≡ is_one_below program (interfaces_in c) x
beside-named program name x None None set is e = cc
beside-named program name x None (Some names) set is e = absurd is
beside-named program name x (Some c) None set is e = absurd is
beside-named program name x (Some c) (Some names) set is e = ap (λ (s : List (List ℕ)). has_name s x) (unwrap e) ∙ is x
  where
    unwrap : Some set ≡ Some names → set ≡ names
    unwrap e = cc

module _ (program : List ClassListing) (sets : List (List (List ℕ))) (name x : List ℕ)
    (all : AreAbove program program sets) where
  interfaces-at : (n : ℕ) → slice_get program n ≡ listed program name → interfaces_in (slice_get program n) ≡
      interfaces_named program name
  interfaces-at n at = ap interfaces_in at ∙ sym (interfaces_named-listed program name)

  pub set-there : (n : ℕ) (set : List (List ℕ)) → slice_get program n ≡ listed program name
      → Some set ≡ slice_get sets n
      → has_name set x ≡ is_one_below program (interfaces_named program name) x
  set-there n set at found =
      beside-named program name x (slice_get program n) (slice_get sets n) set (beside program program sets n all) found
      ∙ ap (λ (names : List (List ℕ)). is_one_below program names x) (interfaces-at n at)

  no-set : (c : Option ClassListing) (names : Option (List (List ℕ))) → IsBeside program c names → None ≡ names
      → false ≡ is_one_below program (interfaces_in c) x
  no-set None None is e = refl
  no-set None (Some names) is e = refl
  no-set (Some c) None is e = absurd is
  no-set (Some c) (Some names) is e = cc

  pub set-missing : (n : ℕ) → slice_get program n ≡ listed program name → None ≡ slice_get sets n
      → false ≡ is_one_below program (interfaces_named program name) x
  set-missing n at none =
      no-set (slice_get program n) (slice_get sets n) (beside program program sets n all) none
      ∙ ap (λ (names : List (List ℕ)). is_one_below program names x) (interfaces-at n at)

pub none-listed : (program : List ClassListing) (name x : List ℕ) → None ≡ listed program name
    → false ≡ is_one_below program (interfaces_named program name) x
none-listed program name x none =
    ap (λ (c : Option ClassListing). is_one_below program (interfaces_in c) x) none
    ∙ ap (λ (names : List (List ℕ)). is_one_below program names x) (sym (interfaces_named-listed program name))

-- ---- from a class to its superclass

abbrev pub superclass_of : Option ClassListing → Option (List ℕ)
superclass_of c = option_map (λ (c : ClassListing). c.superclass) c

interface-parent : (c : Option ClassListing) (i : List ℕ) → HasName (interfaces_in c) i → HasName (parents_in c) i
interface-parent None i h = absurd h
interface-parent (Some c) i h = inr h

superclass-parent : (c : Option ClassListing) (s : List ℕ) → Some s ≡ superclass_of c → HasName (parents_in c) s
superclass-parent None s e = cc
superclass-parent (Some c) s e = inl cc

either-parent : (c : Option ClassListing) (s p : List ℕ) → Some s ≡ superclass_of c → HasName (parents_in c) p
    → (s ≡ p) ⊎ HasName (interfaces_in c) p
either-parent None s p e h = absurd h
either-parent (Some c) s p e (inl is) = inl cc
either-parent (Some c) s p e (inr h) = inr h

no-parents : (c : Option ClassListing) → None ≡ superclass_of c → parents_in c ≡ []
no-parents None e = refl
no-parents (Some c) e = cc

module _ (program : List ClassListing) (name above : List ℕ) where
  -- a walk that found nothing yet: what is left to it of so many steps tells the whole
  pub record IsWalked (steps passed : ℕ) (next : List ℕ) : Type 0 where
    pub below : Subclass program name next
    pub left : is_subclass program name above ≡ true → is_within (steps - passed) program next above ≡ true

  differ : (b : Bool) → b ≡ true → b ≡ false → ⊥
  differ b p q = cc

module _ (program : List ClassListing) (name above : List ℕ) where
  pub walk-first : IsWalked program name above (enough_steps program) 0 name
  walk-first =
      let e : length program + 23 ≡ length program + 23 - 0 = omega arith in
      record { below = same; left = λ h. subst (λ (n : ℕ). is_within n program name above ≡ true) e h }

  module _ (steps passed : ℕ) (next : List ℕ) (so : IsWalked program name above steps passed next) where
    pub walk-here : bytes_eq next above ≡ true → true ≡ is_subclass program name above
    walk-here here =
        sym (Subclass-is_subclass program name above (subst (λ (x : List ℕ). Subclass program name x)
        ((bytes_eq-Decides next above).0 here) so.below))

    pub walk-through : is_one_below program (interfaces_named program next) above ≡ true
        → true ≡ is_subclass program name above
    walk-through there =
        let found : (i : List ℕ) × HasName (interfaces_named program next) i × (is_subclass program i above ≡ true) =
        any-found (λ i. is_subclass program i above) (interfaces_named program next) there in
        sym (Subclass-is_subclass program name above
        (through next so.below
        (through found.0 (parent (interface-parent (class_named program next) found.0 found.1))
        (is_subclass-Subclass program found.0 above found.2))))

    further : (n : ℕ) → is_within (suc n) program next above ≡ true → bytes_eq next above ≡ false
        → (p : List ℕ) × HasName (parents_named program next) p × (is_within n program p above ≡ true)
    unfolding is_within
    further n h other =
        elim (or-cases (bytes_eq next above) (list_any (λ p. is_within n program p above) (parents_named program next))
        h) [
          | inl here ↦ absurd (differ program name above (bytes_eq next above) here other)
          | inr there ↦ any-found (λ p. is_within n program p above) (parents_named program next) there
        ]

    left-further : passed < steps → bytes_eq next above ≡ false → is_subclass program name above ≡ true
        → (p : List ℕ) × HasName (parents_named program next) p × (is_within (steps - (passed + 1)) program p above
        ≡ true)
    left-further inside other h =
        let one : steps - passed ≡ suc (steps - (passed + 1)) = omega (arith, inside) in
        further (steps - (passed + 1)) (subst (λ (n : ℕ). is_within n program next above ≡ true) one (so.left h)) other

    pub walk-next : (s : List ℕ) → passed < steps → Some s ≡ superclass_of (class_named program next)
        → bytes_eq next above ≡ false
        → is_one_below program (interfaces_named program next) above ≡ false
        → IsWalked program name above steps (passed + 1) s
    walk-next s inside is other apart =
        record {
          below = through next so.below (parent (superclass-parent (class_named program next) s is));
          left = λ h. by (left-further inside other h);
        }
      where
        by : (p : List ℕ) × HasName (parents_named program next) p × (is_within (steps - (passed + 1)) program p above
            ≡ true)
            → is_within (steps - (passed + 1)) program s above ≡ true
        by found =
            elim (either-parent (class_named program next) s found.0 is found.1) [
              | inl e ↦ subst (λ (n : List ℕ). is_within (steps - (passed + 1)) program n above ≡ true) (sym e) found.2
              | inr interface ↦
                  absurd (differ program name above (is_one_below program (interfaces_named program next) above)
                  (any-has (λ i. is_subclass program i above) (interfaces_named program next) found.0 interface
                  (Subclass-is_subclass program found.0 above (is_within-Subclass (steps - (passed + 1)) program found.0
                  above found.2)))
                  apart)
            ]

    pub walk-ends : passed < steps → None ≡ superclass_of (class_named program next) → bytes_eq next above ≡ false
        → false ≡ is_subclass program name above
    walk-ends inside none other =
        same-bool false (is_subclass program name above) (λ h. cc)
        (λ h.
        let found : (p : List ℕ) × HasName (parents_named program next) p
        × (is_within (steps - (passed + 1)) program p above ≡ true) =
        left-further inside other h in
        absurd (subst (λ (names : List (List ℕ)). HasName names found.0) (no-parents (class_named program next) none)
        found.1))

    pub walk-over : steps ≤ passed → bytes_eq next above ≡ is_subclass program name above
    unfolding is_within
    walk-over done =
        let none : steps - passed ≡ 0 = omega (arith, done) in
        same-bool (bytes_eq next above) (is_subclass program name above) (λ h. sym (walk-here h))
        (λ h. subst (λ (n : ℕ). is_within n program next above ≡ true) none (so.left h))
