-- The numbers of entries.
use Rattle.std.specs.Prelude.{ℕ, ◌+◌, List, [], ◌∷◌}
use Rattle.model.specs.ClassFiles.Entries.{numbers_of}
use Rattle.model.specs.declared.class_files.Entry.{Entry}

-- entries one after another, each with its first number
abbrev pub numbered : ℕ → List Entry → List (Entry × ℕ)
numbered n [] = []
numbered n (e ∷ es) = (e, n) ∷ numbered (n + numbers_of e) es
