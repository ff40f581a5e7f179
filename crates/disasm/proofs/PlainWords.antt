-- Plain words that stand in lines, one space between two, are read back.
use Rattle.std.proofs.Common.{◌≡◌, ℕ, Bool, true, false, not, ◌&&◌, ◌==◌, List, [], ◌∷◌, ◌++◌, map, Some, None, refl}
use Rattle.std.proofs.Common.{sym, ap, subst, ◌∙◌, append_assoc, arith}
use Rattle.std.specs.Prelude.{nat_le}
use Rattle.std.specs.List.{AllByRecursion, flat_map, list_all}
use Rattle.std.proofs.lemmas.Bool.{and_parts, and_from, or_from, or_right, both_ways, false≢true, not-true, cond-true}
use Rattle.std.proofs.lemmas.Bool.{ne_eqb, leb-true, le-leb}
use Rattle.model.specs.Texts.Lines.{lines_of, line_byte, begins_with_newline}
use Rattle.model.specs.Texts.Statements.{Statement, is_text_byte, statement_of, statement_before, statements_of}
use Rattle.model.specs.Texts.Words.{is_blank, ends_word, word_byte, runs_of, before_comment, words_of}
use Rattle.model.proofs.PlainNames.{is_ink, IsPlain, inks_of}

-- a statement that a line can spell: plain words, one at least
abbrev pub IsSaid : List (List ℕ) → Type 0
IsSaid [] = ⊥
IsSaid (w ∷ ws) = IsPlain w × AllByRecursion IsPlain ws

-- the words after a word, each after a space
abbrev tail : List (List ℕ) → List ℕ
tail [] = []
tail (w ∷ ws) = 32 ∷ w ++ tail ws

-- the same and the newline
abbrev pub following : List (List ℕ) → List ℕ
following [] = 10 ∷ []
following (w ∷ ws) = 32 ∷ w ++ following ws

-- the line of a statement, with its newline
abbrev pub line : List (List ℕ) → List ℕ
line [] = 10 ∷ []
line (w ∷ ws) = w ++ following ws

-- ---- bytes

other_than : (p : ℕ → Bool) (b c : ℕ) → p b ≡ true → p c ≡ false → (b == c) ≡ false
other_than p b c passes fails = ne_eqb b c (λ e. both_ways (p c) fails (subst (λ (x : ℕ). p x ≡ true) e passes))

no_blank : (b : ℕ) → is_ink b ≡ true → is_blank b ≡ false
no_blank b ink = or_from (b == 32) (b == 9) (other_than is_ink b 32 ink refl) (other_than is_ink b 9 ink refl)

ink_in_text : (b : ℕ) → is_ink b ≡ true → is_text_byte b ≡ true
ink_in_text b ink =
    let p = and_parts (nat_le 33 b) (nat_le b 126) ink in
    let low = leb-true 33 b p.0 in
    or_right (b == 9) (nat_le 32 b && nat_le b 126)
    (and_from (nat_le 32 b) (nat_le b 126) (le-leb 32 b (omega (arith, low))) p.1)

-- ---- words

word_ends : (b : ℕ) (ends : Bool) (ws : List (List ℕ)) → is_blank b ≡ false → ends ≡ true → word_byte b ends ws
    ≡ (b ∷ []) ∷ ws
word_ends b ends ws h e = rw (h, e) refl

word_goes_on : (b : ℕ) (ends : Bool) (w : List ℕ) (ws : List (List ℕ)) → is_blank b ≡ false → ends ≡ false
    → word_byte b ends (w ∷ ws) ≡ (b ∷ w) ∷ ws
word_goes_on b ends w ws h e = rw (h, e) refl

run_of_ink : (b : ℕ) (bs rest : List ℕ) (ws : List (List ℕ)) → is_ink b ≡ true → list_all is_ink bs ≡ true
    → ends_word rest ≡ true → runs_of rest ≡ ws
    → runs_of ((b ∷ bs) ++ rest) ≡ (b ∷ bs) ∷ ws
run_of_ink b [] rest ws ink inks ends others = ap (word_byte b (ends_word rest)) others
    ∙ word_ends b (ends_word rest) ws (no_blank b ink) ends
run_of_ink b (c ∷ cs) rest ws ink inks ends others =
    let p = and_parts (is_ink c) (list_all is_ink cs) inks in
    ap (word_byte b (is_blank c)) (run_of_ink c cs rest ws p.0 p.1 ends others)
    ∙ word_goes_on b (is_blank c) (c ∷ cs) ws (no_blank b ink) (no_blank c p.0)

-- a plain word's first byte, and that each of its bytes is ink
record Begins (b : ℕ) (bs : List ℕ) : Type 0 where
  pub no_comment : (b == 59) ≡ false
  pub first : is_ink b ≡ true
  pub others : list_all is_ink bs ≡ true

begins : (b : ℕ) (bs : List ℕ) → IsPlain (b ∷ bs) → Begins b bs
begins b bs plain =
    let p = and_parts (not (b == 59)) (is_ink b && list_all is_ink bs) plain in
    let q = and_parts (is_ink b) (list_all is_ink bs) p.1 in
    record { no_comment = not-true (b == 59) p.0; first = q.0; others = q.1 }

first_run : (w rest : List ℕ) (ws : List (List ℕ)) → IsPlain w → ends_word rest ≡ true → runs_of rest ≡ ws
    → runs_of (w ++ rest) ≡ w ∷ ws
first_run [] rest ws plain ends others = absurd (false≢true plain)
first_run (b ∷ bs) rest ws plain ends others = let p = begins b bs plain
    in run_of_ink b bs rest ws p.first p.others ends others

ends_before : (ws : List (List ℕ)) → ends_word (tail ws) ≡ true
ends_before [] = refl
ends_before (w ∷ ws) = refl

tail_runs : (ws : List (List ℕ)) → AllByRecursion IsPlain ws → runs_of (tail ws) ≡ ws
tail_runs [] plain = refl
tail_runs (w ∷ ws) plain = first_run w (tail ws) ws plain.0 (ends_before ws) (tail_runs ws plain.1)

no_comment : (ws : List (List ℕ)) → AllByRecursion IsPlain ws → before_comment ws ≡ ws
no_comment [] plain = refl
no_comment ([] ∷ ws) plain = absurd (false≢true plain.0)
no_comment ((b ∷ bs) ∷ ws) plain = rw ((begins b bs plain.0).no_comment, no_comment ws plain.1) refl

line_words : (w : List ℕ) (ws : List (List ℕ)) → IsPlain w → AllByRecursion IsPlain ws → words_of (w ++ tail ws)
    ≡ w ∷ ws
line_words w ws first others =
    ap before_comment (first_run w (tail ws) ws first (ends_before ws) (tail_runs ws others))
    ∙ no_comment (w ∷ ws) (first, others)

-- ---- lines

text_before : (w rest : List ℕ) → list_all is_ink w ≡ true → list_all is_text_byte rest ≡ true
    → list_all is_text_byte (w ++ rest) ≡ true
text_before [] rest inks text = text
text_before (b ∷ bs) rest inks text =
    let p = and_parts (is_ink b) (list_all is_ink bs) inks in
    and_from (is_text_byte b) (list_all is_text_byte (bs ++ rest)) (ink_in_text b p.0) (text_before bs rest p.1 text)

text_tail : (ws : List (List ℕ)) → AllByRecursion IsPlain ws → list_all is_text_byte (tail ws) ≡ true
text_tail [] plain = refl
text_tail (w ∷ ws) plain = text_before w (tail ws) (inks_of w plain.0) (text_tail ws plain.1)

byte_goes_on : (b : ℕ) (returns : Bool) (l : List ℕ) (ls : List (List ℕ)) → (b == 10) ≡ false → (b == 13) ≡ false
    → line_byte b returns (l ∷ ls) ≡ (b ∷ l) ∷ ls
byte_goes_on b returns l ls newline return = rw (newline, return) refl

first_line : (bs rest : List ℕ) → list_all is_text_byte bs ≡ true → lines_of (bs ++ 10 ∷ rest) ≡ bs ∷ lines_of rest
first_line [] rest text = refl
first_line (b ∷ bs) rest text =
    let p = and_parts (is_text_byte b) (list_all is_text_byte bs) text in
    ap (line_byte b (begins_with_newline (bs ++ 10 ∷ rest))) (first_line bs rest p.1)
    ∙ byte_goes_on b (begins_with_newline (bs ++ 10 ∷ rest)) bs (lines_of rest) (other_than is_text_byte b 10 p.0 refl)
    (other_than is_text_byte b 13 p.0 refl)

following_is : (ws : List (List ℕ)) (rest : List ℕ) → following ws ++ rest ≡ tail ws ++ 10 ∷ rest
following_is [] rest = refl
following_is (w ∷ ws) rest =
    ap (λ (bs : List ℕ). 32 ∷ bs) (append_assoc w (following ws) rest
    ∙ ap (λ (bs : List ℕ). w ++ bs) (following_is ws rest) ∙ sym (append_assoc w (tail ws) (10 ∷ rest)))

line_is : (w : List ℕ) (ws : List (List ℕ)) (rest : List ℕ) → line (w ∷ ws) ++ rest ≡ (w ++ tail ws) ++ 10 ∷ rest
line_is w ws rest = append_assoc w (following ws) rest ∙ ap (λ (bs : List ℕ). w ++ bs) (following_is ws rest)
    ∙ sym (append_assoc w (tail ws) (10 ∷ rest))

statement_is : (w : List ℕ) (ws : List (List ℕ)) → IsPlain w → AllByRecursion IsPlain ws → statement_of (w ++ tail ws)
    ≡ Some (w ∷ ws)
statement_is w ws first others =
    cond-true (list_all is_text_byte (w ++ tail ws)) (Some (words_of (w ++ tail ws))) None
    (text_before w (tail ws) (inks_of w first) (text_tail ws others))
    ∙ ap Some (line_words w ws first others)

-- a statement's line is read as the statement
read_line : (ws : List (List ℕ)) (rest : List ℕ) → IsSaid ws → statements_of (lines_of (line ws ++ rest))
    ≡ Some ws ∷ statements_of (lines_of rest)
read_line [] rest said = absurd said
read_line (w ∷ ws) rest said =
    ap (λ (bs : List ℕ). statements_of (lines_of bs)) (line_is w ws rest)
    ∙ ap statements_of (first_line (w ++ tail ws) rest (text_before w (tail ws) (inks_of w said.0)
    (text_tail ws said.1)))
    ∙ ap (λ (s : Statement). statement_before s (statements_of (lines_of rest))) (statement_is w ws said.0 said.1)

-- statements are read from their lines
pub read_lines : (ss : List (List (List ℕ))) → AllByRecursion IsSaid ss → statements_of (lines_of (flat_map line ss))
    ≡ map Some ss
read_lines [] said = refl
read_lines (s ∷ ss) said = read_line s (flat_map line ss) said.0 ∙ ap (λ (rest : List Statement). Some s ∷ rest)
    (read_lines ss said.1)
