-- The state of a class by its name.
use Rattle.std.proofs.Common.{◌≡◌, inl, inr, ◌<◌, ◌≤◌, ◌+◌, arith, ℕ, zero, suc, List, [], ◌∷◌, length, Bool, true}
use Rattle.std.proofs.Common.{false, Option, Some, None, is_some, refl, ap, sym, ◌∙◌}
use Rattle.std.specs.Prelude.{position, slice_get}
use Rattle.std.specs.List.{find, position_or_len}
use Rattle.std.specs.Option.{option_map}
use Rattle.std.proofs.lemmas.Bool.Decides.{leb_tells}
use Rattle.std.proofs.lemmas.Option.{slice_get-get_or, slice_get_within}
use Rattle.model.specs.declared.turns.ClassState.{ClassState}
use Rattle.model.specs.declared.turns.ClassState.TheVariants.{Done}
use Rattle.model.specs.ClassListings.{ClassListing}
use Rattle.model.specs.Classes.Named.{builtin, class_named, is_named, or_else}
use Rattle.model.specs.Initialisation.{state_at}
use Rattle.instructions.proofs.ListPlaces.{first_at}

-- ---- what is first at a place is found, and what is nowhere is not

found-at : (p : ClassListing → Bool) (xs : List ClassListing) (n : ℕ) (x : ClassListing) → slice_get xs n ≡ Some x
    → p x ≡ true → is_some (find p xs) ≡ true
found-at p [] n x there e = cc
found-at p (y ∷ ys) zero x there e = let same : y ≡ x = cc in let passes : p y ≡ true = ap p same ∙ e in rw passes refl
found-at p (y ∷ ys) (suc n) x there e = by (found-at p ys n x there e) (p y) refl
  where
    by : is_some (find p ys) ≡ true → (b : Bool) → p y ≡ b → is_some (find p (y ∷ ys)) ≡ true
    by more true is = rw is refl
    by more false is = rw is more

found-nowhere : (p : ClassListing → Bool) (xs : List ClassListing) → length xs ≤ position_or_len p xs → find p xs ≡ None
found-nowhere p [] e = refl
found-nowhere p (y ∷ ys) e = by (found-nowhere p ys) (p y) refl
  where
    by : (length ys ≤ position_or_len p ys → find p ys ≡ None) → (b : Bool) → p y ≡ b → find p (y ∷ ys) ≡ None
    by more true is = let here : position_or_len p (y ∷ ys) ≡ 0 = rw is refl in absurd (omega (arith, e, here))
    by more false is =
        let there : position_or_len p (y ∷ ys) ≡ 1 + position_or_len p ys = rw is refl in
        rw is (more (omega (arith, e, there)))

-- ---- the state of a class

module _ (program : List ClassListing) (name : List ℕ) (states : List ClassState) where
  -- of the class of a name
  abbrev pub reported : Option ClassListing → Option ClassState
  reported class = option_map (λ (c : ClassListing). state_at states (position (is_named name) program)) class

  some-reported : (o : Option ClassListing) → is_some o ≡ true → reported (or_else o (builtin name))
      ≡ Some (state_at states (position (is_named name) program))
  some-reported None e = cc
  some-reported (Some c) e = refl

  pub listed-state : (n : ℕ) (o : Option ClassState) → position (is_named name) program ≡ Some n → length states
      ≡ length program → o ≡ slice_get states n
      → o ≡ reported (class_named program name)
  listed-state n o at sized is =
      let first = first_at (is_named name) program n at in
      let within : n < length program = slice_get_within program n first.item first.there in
      let there : n < length states = omega (arith, within, sized) in
      let named : is_some (find (is_named name) program) ≡ true = found-at (is_named name) program n first.item
      first.there first.passes in
      is ∙ slice_get-get_or states n Done there ∙ ap (λ (place : Option ℕ). Some (state_at states place)) (sym at)
      ∙ sym (some-reported (find (is_named name) program) named)

  pub unlisted-state : position (is_named name) program ≡ None → is_some (builtin name) ≡ false
      → None ≡ reported (class_named program name)
  unlisted-state none other =
      let nowhere : find (is_named name) program ≡ None = found-nowhere (is_named name) program (past none) in
      sym (ap (λ (o : Option ClassListing). reported (or_else o (builtin name))) nowhere
      ∙ ap reported (no-class (builtin name) other))
    where
      no-class : (o : Option ClassListing) → is_some o ≡ false → o ≡ None
      no-class None e = refl
      no-class (Some c) e = cc

      past : position (is_named name) program ≡ None → length program ≤ position_or_len (is_named name) program
      past e =
          elim (leb_tells (suc (position_or_len (is_named name) program)) (length program)) [
            | inl t ↦ let h = rw t.0 at e in cc
            | inr f ↦ omega arith
          ]
