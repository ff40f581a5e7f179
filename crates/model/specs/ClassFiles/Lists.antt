-- What stands one after another.
use Rattle.std.specs.Prelude.{◌≡◌, ℕ, List, [], ◌∷◌, ◌++◌}

-- the bytes are those of each in turn
abbrev pub SpellsAll : {A : Type 0} → (List ℕ → A → Type 0) → List ℕ → List A → Type 0
SpellsAll Spells bytes [] = bytes ≡ []
SpellsAll Spells bytes (x ∷ xs) = (text rest : List ℕ) × (bytes ≡ text ++ rest) × Spells text x
    × SpellsAll Spells rest xs
