-- Labels by name, and whether they are different.
use native.Mathlib.Numerals.{unary_clauses}
use Rattle.std.proofs.Common.{◌≡◌, ℕ, Bool, true, false, ◌&&◌, List, [], ◌∷◌, ◌++◌, map, refl, sym, ◌∙◌, ap}
use Rattle.std.proofs.Common.{append_assoc, inl, inr, Some, None, Option, is_some, ◌+◌, ◌<◌, length, drop, drop-cons}
use Rattle.std.proofs.Common.{get_or}
use Rattle.std.specs.Map.{lookup}
use Rattle.std.specs.Str.{bytes_eq}
use Rattle.std.proofs.lemmas.Slice.Eq.{bytes_eq-Decides}
use Rattle.jasmin_words.proofs.Places.{bool_tells}
use Rattle.model.specs.Texts.Tables.{named}
use Rattle.model.specs.declared.trees.TextLine.{TextLine}
use Rattle.model.specs.declared.trees.TextLine.TheVariants.{Label, Instruction}
use Rattle.model.specs.Texts.Instructions.{Written}
use Rattle.model.specs.Texts.Uses.{are_different, labels_from, count_from}

module _ {K T : Type 0} (text : K → List ℕ) where
  -- the rows of a map by the text of each key
  abbrev pub rows_of : List (K × T) → List (List ℕ × T)
  rows_of entries = map (λ e. (text e.0, e.1)) entries

  -- what a map has at a text, and a table of its rows under it
  pub named_of : (name : List ℕ) (entries : List (K × T)) → lookup (λ k. bytes_eq name (text k)) entries
      ≡ named (rows_of entries) name
  named_of name [] = refl
  named_of name (e ∷ entries) = elim (bool_tells (bytes_eq name (text e.0))) [
    | inl t ↦ rw t refl
    | inr f ↦ rw f (named_of name entries)
  ]

  pub rows_push : (entries : List (K × T)) (k : K) (v : T) → rows_of (entries ++ (k, v) ∷ []) ≡ rows_of entries
      ++ (text k, v) ∷ []
  rows_push [] k v = refl
  rows_push (e ∷ entries) k v = ap (λ rows. (text e.0, e.1) ∷ rows) (rows_push entries k v)

bytes_eq_refl : (word : List ℕ) → bytes_eq word word ≡ true
bytes_eq_refl word = (bytes_eq-Decides word word).1 refl

bytes_eq_sym : (a b : List ℕ) → bytes_eq a b ≡ false → bytes_eq b a ≡ false
bytes_eq_sym a b h = elim (bool_tells (bytes_eq b a)) [ inl t ↦ let e = (bytes_eq-Decides b a).0 t in cc | inr f ↦ f ]

-- a name stands under a table's last row at least
under_last : (rows : List (List ℕ × ℕ)) (name : List ℕ) (n : ℕ) (more : List (List ℕ × ℕ))
    → is_some (named (rows ++ (name, n) ∷ more) name) ≡ true
under_last [] name n more = rw (bytes_eq_refl name) refl
under_last (row ∷ rows) name n more = elim (bool_tells (bytes_eq name row.0)) [
  | inl t ↦ rw t refl
  | inr f ↦ rw f (under_last rows name n more)
]

and_false : (a : Bool) → (a && false) ≡ false
and_false true = refl
and_false false = refl

-- a label that is given again
pub given_twice : (rows : List (List ℕ × ℕ)) (name : List ℕ) (n : ℕ) (more : List (List ℕ × ℕ))
    → is_some (named rows name) ≡ true → are_different (rows ++ (name, n) ∷ more) ≡ false
given_twice [] name n more h = cc
given_twice (row ∷ rows) name n more h =
    elim (bool_tells (bytes_eq name row.0)) [
      | inl t ↦ rw (← (bytes_eq-Decides name row.0).0 t, under_last rows name n more) refl
      | inr f ↦ rw (given_twice rows name n more (rw f at h)) (and_false _)
    ]

-- a table with one row more, under another name
named_push : (rows : List (List ℕ × ℕ)) (name other : List ℕ) (n : ℕ) → bytes_eq other name ≡ false
    → named (rows ++ (name, n) ∷ []) other ≡ named rows other
named_push [] name other n h = rw h refl
named_push (row ∷ rows) name other n h = elim (bool_tells (bytes_eq other row.0)) [
  | inl t ↦ rw t refl
  | inr f ↦ rw f (named_push rows name other n h)
]

-- a label that was not given yet
pub given_once : (rows : List (List ℕ × ℕ)) (name : List ℕ) (n : ℕ) → named rows name ≡ None → are_different rows ≡ true
    → are_different (rows ++ (name, n) ∷ []) ≡ true
given_once [] name n h d = refl
given_once (row ∷ rows) name n h d =
    elim (bool_tells (bytes_eq name row.0)) [
      | inl t ↦ let g = rw t at h in cc
      | inr f ↦
          let here = rw f at h in
          elim (bool_tells (is_some (named rows row.0))) [
            | inl s ↦ let g = rw s at d in cc
            | inr s ↦ rw (
              named_push rows name row.0 n (bytes_eq_sym name row.0 f),
              s,
            ) (given_once rows name n here (rw s at d))
          ]
    ]

-- the lines from one of them on
drop_at : (lines : List TextLine) (i : ℕ) (line : TextLine) → i < length lines → line ≡ get_or lines i line
    → drop i lines ≡ line ∷ drop (i + 1) lines
drop_at lines i line h e = simp unary_clauses (rw (drop-cons lines i line, ← e) refl)

-- the labels and the instructions from a line on that gives a label, or is an instruction
at_label : (count i : ℕ) (lines : List TextLine) (name : List ℕ) → i < length lines → Label name
    ≡ get_or lines i (Label name) → labels_from count (drop i lines)
    ≡ (name, count) ∷ labels_from count (drop (i + 1) lines)
at_label count i lines name h e = ap (labels_from count) (drop_at lines i (Label name) h e)

pub labels_past : (count i : ℕ) (lines : List TextLine) (instruction : Written) → i < length lines → Instruction
    instruction ≡ get_or lines i (Instruction instruction)
    → labels_from count (drop i lines) ≡ labels_from (count + 1) (drop (i + 1) lines)
labels_past count i lines instruction h e = ap (labels_from count) (drop_at lines i (Instruction instruction) h e)

pub counted_at_label : (count i : ℕ) (lines : List TextLine) (name : List ℕ) → i < length lines → Label name
    ≡ get_or lines i (Label name) → count_from count (drop i lines) ≡ count_from count (drop (i + 1) lines)
counted_at_label count i lines name h e = ap (count_from count) (drop_at lines i (Label name) h e)

pub counted_past : (count i : ℕ) (lines : List TextLine) (instruction : Written) → i < length lines → Instruction
    instruction ≡ get_or lines i (Instruction instruction)
    → count_from count (drop i lines) ≡ count_from (count + 1) (drop (i + 1) lines)
counted_past count i lines instruction h e = ap (count_from count) (drop_at lines i (Instruction instruction) h e)

module _ (labels all : List (List ℕ × ℕ)) (count i : ℕ) (lines : List TextLine) (name word : List ℕ)
    (here : i < length lines) (at : Label name ≡ get_or lines i (Label name)) (same : word ≡ name)
    (whole : labels ++ labels_from count (drop i lines) ≡ all) where
  -- a label that was given before
  pub label_again : is_some (named labels word) ≡ true → are_different all ≡ false
  label_again h =
      rw (← whole, at_label count i lines name here at)
      (given_twice labels name count (labels_from count (drop (i + 1) lines)) (rw same at h))

  -- a label that is new
  pub label_noted : (labels ++ (word, count) ∷ []) ++ labels_from count (drop (i + 1) lines) ≡ all
  label_noted = rw (same, append_assoc) (ap (λ rest. labels ++ rest) (sym (at_label count i lines name here at))
      ∙ whole)

none_found : (found : Option ℕ) → false ≡ is_some found → found ≡ None
none_found None h = refl
none_found (Some n) h = cc

-- the labels with one that is new are still different
pub still_different : (labels : List (List ℕ × ℕ)) (count : ℕ) (word : List ℕ) (found : Option ℕ)
    → found ≡ named labels word → false ≡ is_some found → are_different labels ≡ true
    → are_different (labels ++ (word, count) ∷ []) ≡ true
still_different labels count word found e h d = given_once labels word count (sym e ∙ none_found found h) d
