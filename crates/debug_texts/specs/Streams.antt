use Rattle.std.specs.Prelude.{◌≡◌, ℕ, List, [], ◌∷◌, ◌++◌, MatchResult, Option, Some, None, Result}
use Rattle.std.specs.Io.KnownBytes.{Appends, Consumes, IsAtEnd, Keeps}

-- What a read and a write do to the bytes of a source and of a sink, where those are known.

-- a byte is the first of those that were left; where none is given, none was left
abbrev pub Gives : Option ℕ → Option (List ℕ) → Option (List ℕ) → Type 0
Gives None before after = Keeps before after × IsAtEnd after
Gives (Some b) before after = Consumes before after (b ∷ [])

-- a beginning of these bytes was written
abbrev pub AppendsPart : Option (List ℕ) → Option (List ℕ) → List ℕ → Type 0
AppendsPart before after bytes = (part : List ℕ) × (rest : List ℕ) × (bytes ≡ part ++ rest) × Appends before after part

-- all of these bytes were written, or where it failed a beginning of them
abbrev pub Puts : {A E : Type 0} → Result A E → Option (List ℕ) → Option (List ℕ) → List ℕ → Type 0
Puts result before after bytes = MatchResult result (λ _. Appends before after bytes)
    (λ _. AppendsPart before after bytes)
