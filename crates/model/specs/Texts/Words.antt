use Rattle.std.specs.Prelude.{ℕ, Bool, true, false, ◌||◌, ◌==◌, List, [], ◌∷◌, if◌then◌else◌}
use Rattle.std.specs.List.{onto_first}

-- a space or a tab
abbrev pub is_blank : ℕ → Bool
is_blank b = b == 32 || b == 9

-- whether a word that is followed by these bytes ends there
abbrev pub ends_word : List ℕ → Bool
ends_word [] = true
ends_word (b ∷ bs) = is_blank b

-- a blank is in no word; any other byte is the first of a word that ends there or of the one that follows
abbrev pub word_byte : ℕ → Bool → List (List ℕ) → List (List ℕ)
word_byte b ends words = if is_blank b then words else if ends then (b ∷ []) ∷ words else onto_first b words

-- the runs of bytes between blanks
abbrev pub runs_of : List ℕ → List (List ℕ)
runs_of [] = []
runs_of (b ∷ bs) = word_byte b (ends_word bs) (runs_of bs)

-- a semicolon at a line's start or after a blank begins a comment
abbrev pub begins_comment : List ℕ → Bool
begins_comment [] = false
begins_comment (b ∷ bs) = b == 59

abbrev pub before_comment : List (List ℕ) → List (List ℕ)
before_comment [] = []
before_comment (w ∷ ws) = if begins_comment w then [] else w ∷ before_comment ws

-- the words of a line
abbrev pub words_of : List ℕ → List (List ℕ)
words_of line = before_comment (runs_of line)
