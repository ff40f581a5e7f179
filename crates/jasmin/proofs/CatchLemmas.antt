-- The words of a row of an exception table.
use Rattle.std.proofs.Common.{◌≡◌, ◌≢◌, ℕ, List, [], ◌∷◌, length, None, refl}
use Rattle.model.specs.Texts.Methods.{catch_of}

-- a row has seven words
pub not_seven : (words : List (List ℕ)) → length words ≢ 7 → catch_of words ≡ None
not_seven [] other = refl
not_seven (a ∷ []) other = refl
not_seven (a ∷ b ∷ []) other = refl
not_seven (a ∷ b ∷ c ∷ []) other = refl
not_seven (a ∷ b ∷ c ∷ d ∷ []) other = refl
not_seven (a ∷ b ∷ c ∷ d ∷ e ∷ []) other = refl
not_seven (a ∷ b ∷ c ∷ d ∷ e ∷ f ∷ []) other = refl
not_seven (a ∷ b ∷ c ∷ d ∷ e ∷ f ∷ g ∷ []) other = absurd (other refl)
not_seven (a ∷ b ∷ c ∷ d ∷ e ∷ f ∷ g ∷ h ∷ words) other = refl
