use Rattle.std.specs.Prelude.{ℕ, Bool, false, ◌&&◌, ◌==◌, List, [], ◌∷◌, if◌then◌else◌}
use Rattle.std.specs.List.{onto_first}

abbrev pub begins_with_newline : List ℕ → Bool
begins_with_newline [] = false
begins_with_newline (b ∷ bs) = b == 10

-- the lines of a text that begins with a byte: a newline ends a line, a carriage return before one is dropped, and any
-- other byte is the first of the first line after it
abbrev pub line_byte : ℕ → Bool → List (List ℕ) → List (List ℕ)
line_byte b before_newline lines = if b == 10 then [] ∷ lines else if b == 13 && before_newline then lines
    else onto_first b lines

-- the lines of a text: one for each newline, and one where bytes follow the last newline
abbrev pub lines_of : List ℕ → List (List ℕ)
lines_of [] = []
lines_of (b ∷ bs) = line_byte b (begins_with_newline bs) (lines_of bs)
