-- Rows that are passed over, and rows that are written, one after another.
use Rattle.std.proofs.Common.{◌≡◌, ◌<◌, ◌-◌, ◌+◌, ◌∙◌, ℕ, zero, suc, List, [], ◌∷◌, ◌++◌, ap, arith, drop, refl, sym, take}
use Rattle.std.proofs.lemmas.List.{append-nil, append_assoc}
use Rattle.std.proofs.Math.Seq.{drop-nil, take-nil}
use Rattle.model.specs.declared.journals.Row.{Row}
use Rattle.model.specs.JournalTexts.{row_line, lines_of_rows}

one_less : (n k : ℕ) → k < n → n - k ≡ suc (n - (k + 1))
one_less n k h = omega (arith, h)

none_less : (n : ℕ) → n - n ≡ zero
none_less n = omega arith

-- ---- passed over

pub passed : (n k : ℕ) (x : Row) (rest more rows : List Row) → k < n → rest ≡ x ∷ more → drop (n - k) rest ≡ rows
    → drop (n - (k + 1)) more ≡ rows
passed n k x rest more rows h e d =
    ap (λ (j : ℕ). drop j (x ∷ more)) (sym (one_less n k h)) ∙ ap (λ (xs : List Row). drop (n - k) xs) (sym e) ∙ d

-- none is left
pub over : (n : ℕ) (rest after rows : List Row) → rest ≡ [] → after ≡ [] → drop n rest ≡ rows → after ≡ rows
over n rest after rows e f d = f ∙ sym (drop-nil n) ∙ ap (λ (xs : List Row). drop n xs) (sym e) ∙ d

-- all were passed over
pub all_passed : (n : ℕ) (rest rows : List Row) → drop (n - n) rest ≡ rows → rest ≡ rows
all_passed n rest rows d = ap (λ (j : ℕ). drop j rest) (sym (none_less n)) ∙ d

-- ---- written

abbrev pub lines : List Row → List ℕ
lines rows = lines_of_rows row_line rows

pub written : (n k : ℕ) (x : Row) (rest more : List Row) (text whole : List ℕ) → k < n → rest ≡ x ∷ more
    → text ++ lines (take (n - k) rest) ≡ whole → (text ++ row_line x) ++ lines (take (n - (k + 1)) more) ≡ whole
written n k x rest more text whole h e d =
    append_assoc text (row_line x) (lines (take (n - (k + 1)) more))
    ∙ ap (λ (j : ℕ). text ++ lines (take j (x ∷ more))) (sym (one_less n k h))
    ∙ ap (λ (xs : List Row). text ++ lines (take (n - k) xs)) (sym e) ∙ d

pub written_over : (n : ℕ) (rest : List Row) (text whole : List ℕ) → rest ≡ [] → text ++ lines (take n rest) ≡ whole
    → text ≡ whole
written_over n rest text whole e d =
    sym (append-nil text) ∙ ap (λ (xs : List Row). text ++ lines xs) (sym (take-nil n))
    ∙ ap (λ (xs : List Row). text ++ lines (take n xs)) (sym e) ∙ d

pub all_written : (n : ℕ) (rest : List Row) (text whole : List ℕ) → text ++ lines (take (n - n) rest) ≡ whole
    → text ≡ whole
all_written n rest text whole d =
    sym (append-nil text) ∙ ap (λ (j : ℕ). text ++ lines (take j rest)) (sym (none_less n)) ∙ d
