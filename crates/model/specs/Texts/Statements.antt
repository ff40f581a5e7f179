use Rattle.std.specs.Prelude.{ℕ, Bool, ◌&&◌, ◌||◌, ◌==◌, nat_le, List, [], ◌∷◌, Option, Some, None, if◌then◌else◌}
use Rattle.std.specs.List.{list_all}
use Rattle.model.specs.Texts.Words.{words_of}

-- a tab, or a character that prints
abbrev pub is_text_byte : ℕ → Bool
is_text_byte b = b == 9 || (nat_le 32 b && nat_le b 126)

abbrev pub is_text_line : List ℕ → Bool
is_text_line line = list_all is_text_byte line

-- a line's words; none where a byte of it, in a comment too, may not stand in a text
abbrev pub Statement : Type 0
Statement = Option (List (List ℕ))

abbrev pub statement_of : List ℕ → Statement
statement_of line = if is_text_line line then Some (words_of line) else None

-- a line without a word is skipped
abbrev pub statement_before : Statement → List Statement → List Statement
statement_before None rest = None ∷ rest
statement_before (Some []) rest = rest
statement_before (Some (w ∷ ws)) rest = Some (w ∷ ws) ∷ rest

-- the statements that lines spell
abbrev pub statements_of : List (List ℕ) → List Statement
statements_of [] = []
statements_of (line ∷ lines) = statement_before (statement_of line) (statements_of lines)
