-- What is true of findings that were put together.
use Rattle.std.proofs.Common.{◌≡◌, ◌⊎◌, inl, inr, ℕ, zero, suc, arith, List, [], ◌∷◌, map, slice_get, Some, refl, subst}
use Rattle.model.specs.declared.journals.Limits.{Limits}
use Rattle.model.specs.ClassListings.{ClassListing}
use Rattle.exploration.specs.Observations.{Observed}
use Rattle.exploration.specs.Outcomes.{IsOutcome}
use Rattle.exploring.specs.declared.explored.Move.{Move}
use Rattle.exploring.specs.Explorations.{AreSoundAfter, Finding, noted, outcome_of}
use Rattle.exploring.proofs.ExplorationLemmas.{Notes, notes}
use Rattle.exploring_together.specs.Merging.{with_all, with_keys, with_one}

-- this outcome was found
abbrev pub IsFound : List Finding → Observed → Type 0
IsFound found o = IsOutcome (map outcome_of found) o

module _ (program : List ClassListing) (limits : Limits) (first : List Move) where
  abbrev AreSound : List Finding → Type 0
  AreSound found = AreSoundAfter program limits first found

  noted_with : (found : List Finding) (f : Finding) (more : List Finding) → AreSound found → AreSound (f ∷ more)
      → Notes program limits first (with_keys found) (noted (with_keys found) f.outcome f.moves) f.outcome
  noted_with found f more sound rest = notes program limits first (with_keys found) f.outcome f.moves refl sound
      (rest.real 0 f refl) (rest.begin 0 f refl)

  -- what is left of sound findings is sound
  pub rest_sound : (f : Finding) (more : List Finding) → AreSound (f ∷ more) → AreSound more
  rest_sound f more sound = record {
    real = λ k g e. sound.real (suc k) g e;
    begin = λ k g e. sound.begin (suc k) g e;
    once = λ i j o d e. (let more : suc i ≡ suc j = sound.once (suc i) (suc j) o d e in omega (arith, more));
  }

  pub one_sound : (found : List Finding) (f : Finding) (more : List Finding) → AreSound found → AreSound (f ∷ more)
      → AreSound (with_one found f)
  one_sound found f more sound rest = (noted_with found f more sound rest).sound

  pub all_sound : (found more : List Finding) → AreSound found → AreSound more → AreSound (with_all found more)
  all_sound found [] sound rest = sound
  all_sound found (f ∷ more) sound rest =
      all_sound (with_one found f) more (one_sound found f more sound rest) (rest_sound f more rest)

  -- the outcomes of both were found
  pub all_found : (found more : List Finding) → AreSound found → AreSound more → (o : Observed)
      → IsFound found o ⊎ IsFound more o → IsFound (with_all found more) o
  all_found found [] sound rest o (inl h) = h
  all_found found [] sound rest o (inr h) = absurd (let none = h.1 in cc)
  all_found found (f ∷ more) sound rest o h = all_found (with_one found f) more (one_sound found f more sound rest)
      (rest_sound f more rest) o (elim h [
        | inl there ↦ inl ((noted_with found f more sound rest).more o there)
        | inr there ↦ at there.0 there.1
      ])
    where
      at : (k : ℕ) → slice_get (map outcome_of (f ∷ more)) k ≡ Some o
          → IsFound (with_one found f) o ⊎ IsFound more o
      at zero e = (let same : f.outcome ≡ o = cc in inl (subst (IsFound (with_one found f)) same
          (noted_with found f more sound rest).there))
      at (suc k) e = inr (k, e)
