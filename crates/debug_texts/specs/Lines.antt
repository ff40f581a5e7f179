use Rattle.std.specs.Prelude.{◌≡◌, ◌≢◌, ◌⊎◌, ℕ, List, [], ◌∷◌, ◌++◌, Option}
use Rattle.std.specs.List.{AllByRecursion}
use Rattle.std.specs.Io.KnownBytes.{Consumes, IsAtEnd}

-- Lines of commands. A newline ends one, and the last may lack it; any other byte is one of the line's.

abbrev pub IsLine : List ℕ → Type 0
IsLine line = AllByRecursion (λ b. b ≢ 10) line

-- a line was read: with its newline, or as the last without one
abbrev pub ReadsLine : Option (List ℕ) → Option (List ℕ) → List ℕ → Type 0
ReadsLine before after line = Consumes before after (line ++ 10 ∷ []) ⊎ (Consumes before after line × IsAtEnd after)
