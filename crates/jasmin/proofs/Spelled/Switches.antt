-- A switch of a text has keys that are ints, and a table has a target.
use Rattle.std.proofs.Common.{◌≡◌, ℕ, ℤ, ◌≤◌, true, ◌&&◌, List, [], ◌∷◌, length, map, refl, ◌∙◌, arith, inl, inr, Some}
use Rattle.std.proofs.Common.{None, Option, codes}
use Rattle.std.specs.Prelude.{IfSome, nat_le, pos, negsuc}
use Rattle.std.specs.List.{list_all}
use Rattle.std.specs.Option.{option_map, option_and_then}
use Rattle.std.specs.Str.{bytes_eq}
use Rattle.std.proofs.lemmas.Bool.Decides.{leb_tells}
use Rattle.std.proofs.lemmas.List.Folds.{list_all-append, list_all-map}
use Rattle.model.specs.Texts.Operands.{label_named, only_number}
use Rattle.model.specs.Texts.Spelled.{is_int}
use Rattle.model.specs.Texts.Switches.{Switch, table, lookup, SwitchLine, goes_on, ends, is_int as key_of, table_begins}
use Rattle.model.specs.Texts.Switches.{lookup_begins, with_default, with_target, with_pair, line_before, switch_line}
use Rattle.jasmin.proofs.Spelled.Instructions.{Fits}
use Rattle.jasmin.proofs.Spelled.Operands.{number_fits, only_number_fits}
use Rattle.jasmin.proofs.Spelled.Partial.{and_true, of_map, of_any, of_test}

-- a switch of which lines may follow
abbrev pub SwitchFits : Switch → Type 0
SwitchFits (table low targets) = is_int low ≡ true
SwitchFits (lookup pairs) = list_all (λ p. is_int p.0) pairs ≡ true

abbrev pub LineFits : SwitchLine → Type 0
LineFits (goes_on s) = SwitchFits s
LineFits (ends i) = Fits i

pub table_fits : (words : List (List ℕ)) → IfSome (table_begins words) SwitchFits
table_fits words =
    of_map SwitchFits (λ low. table low []) (only_number (negsuc 2147483647) (pos 2147483647) words)
    (only_number_fits (negsuc 2147483647) (pos 2147483647) words)

pub lookup_fits : (words : List (List ℕ)) → IfSome (lookup_begins words) SwitchFits
lookup_fits [] = refl
lookup_fits (word ∷ words) = tt

not_empty : (n : ℕ) → 1 ≤ n → nat_le 1 n ≡ true
not_empty n h = elim (leb_tells 1 n) [ inl t ↦ t.0 | inr f ↦ absurd (omega arith) ]

has_target : (f : List ℕ → ℕ) (target : List ℕ) (targets : List (List ℕ)) → nat_le 1 (length (map f (target ∷ targets)))
    ≡ true
has_target f target targets = not_empty (length (map f (target ∷ targets))) (omega arith)

default_fits : (s : Switch) (label : List ℕ) → SwitchFits s → IfSome (with_default s label) Fits
default_fits (table low []) label h = tt
default_fits (table low (target ∷ targets)) label h = λ f. and_true (is_int low)
    (nat_le 1 (length (map f (target ∷ targets)))) h (has_target f target targets)
default_fits (lookup pairs) label h = λ f. list_all-map (λ p. is_int p.0) (λ (p : ℤ × List ℕ). (p.0, f p.1)) pairs ∙ h

target_fits : (s : Switch) (label : List ℕ) → SwitchFits s → IfSome (with_target s label) SwitchFits
target_fits (table low targets) label h = h
target_fits (lookup pairs) label h = tt

pair_fits : (s : Switch) (key : Option ℤ) (label : List ℕ) → SwitchFits s → IfSome key (λ z. is_int z ≡ true)
    → IfSome (with_pair s key label) SwitchFits
pair_fits (table low targets) key label h k = tt
pair_fits (lookup pairs) None label h k = tt
pair_fits (lookup pairs) (Some key) label h k =
    list_all-append (λ p. is_int p.0) pairs ((key, label) ∷ [])
    ∙ and_true (list_all (λ p. is_int p.0) pairs) (is_int key && true) h (and_true (is_int key) true k refl)

before_fits : (s : Switch) (word label : List ℕ) → SwitchFits s → IfSome (line_before s word label) LineFits
before_fits s word label h =
    of_test LineFits (bytes_eq word (codes "default")) (option_map ends (with_default s label))
    (option_map goes_on (with_pair s (key_of word) label))
    (λ t. of_map LineFits ends (with_default s label) (default_fits s label h))
    (λ f. of_map LineFits goes_on (with_pair s (key_of word) label)
    (pair_fits s (key_of word) label h (number_fits (negsuc 2147483647) (pos 2147483647) word)))

pub line_fits : (s : Switch) (words : List (List ℕ)) → SwitchFits s → IfSome (switch_line s words) LineFits
line_fits s [] h = tt
line_fits s (word ∷ []) h =
    of_map LineFits goes_on (option_and_then (with_target s) (label_named word))
    (of_any SwitchFits (with_target s) (label_named word) (λ label. target_fits s label h))
line_fits s (word ∷ colon ∷ []) h = tt
line_fits s (word ∷ colon ∷ label ∷ []) h =
    of_test LineFits (bytes_eq colon (codes ":")) (option_and_then (line_before s word) (label_named label)) None
    (λ t. of_any LineFits (line_before s word) (label_named label) (λ l. before_fits s word l h))
    (λ f. tt)
line_fits s (word ∷ colon ∷ label ∷ other ∷ words) h = tt
