-- Switches are read back from their lines.
use Rattle.std.proofs.Common.{◌≡◌, ℕ, ℤ, pos, negsuc, Bool, true, nat_le, List, [], ◌∷◌, ◌++◌, map, length, codes, Some}
use Rattle.std.proofs.Common.{None, refl, sym, ap, ◌∙◌, arith, leb-true, append_assoc, append-nil}
use Rattle.std.specs.Prelude.{if◌then◌else◌}
use Rattle.std.specs.Fmt.{signed_decimal}
use Rattle.std.specs.List.{list_all}
use Rattle.std.specs.Option.{option_map, option_and_then}
use Rattle.std.proofs.lemmas.Bool.{and_parts}
use Rattle.model.specs.declared.instructions.Instruction.TheVariants as instruction
use Rattle.model.specs.declared.trees.TextLine.TheVariants.{Instruction}
use Rattle.model.specs.Switches.{Table, Lookup}
use Rattle.model.specs.Texts.Disassembling.{label, targets}
use Rattle.model.specs.Texts.Instructions.{Written}
use Rattle.model.specs.Texts.Methods.{Saying, part, opens, code_line, said_by, said_in, saying_of, part_before}
use Rattle.model.specs.Texts.Methods.{parts_by, parts_from}
use Rattle.model.specs.Texts.Numbers.{number_in}
use Rattle.model.specs.Texts.Operands.{label_named}
use Rattle.model.specs.Texts.Spelled.{table_is_spelled, lookup_is_spelled, is_int}
use Rattle.model.specs.Texts.Statements.{Statement}
use Rattle.model.specs.Texts.Switches.{Switch, table, lookup, goes_on, ends, with_default, with_target, with_pair}
use Rattle.model.specs.Texts.Switches.{line_before}
use Rattle.disasm.specs.Statements.{table_words, target_words, pair_words, default_words}
use Rattle.disasm.proofs.Back.Instructions.{fits_label, ReadBack}
use Rattle.disasm.proofs.Back.Lists.{all_parts}
use Rattle.disasm.proofs.Back.Numbers.{signed_back, number_other}
use Rattle.disasm.proofs.Back.Words.{label_back}

label_read : (n : ℕ) → fits_label n ≡ true → label_named (label n) ≡ Some (label n)
label_read n e = let small = leb-true n 65535 e in label_back n (omega (arith, small))

-- what a statement says where a switch is open, and then the others
next_said : (switch : Switch) (said : Saying) (words : List (List ℕ)) (ss : List Statement)
    → saying_of (Some switch) (Some words) ≡ Some said
    → parts_from (Some words ∷ ss) (Some switch) ≡ parts_by (Some said) (parts_from ss)
next_said switch said words ss e = ap (λ o. parts_by o (parts_from ss)) e

-- ---- lines

default_said : (switch : Switch) (w : Written) (n : ℕ) → fits_label n ≡ true → with_default switch (label n) ≡ Some w
    → saying_of (Some switch) (Some (default_words n)) ≡ Some (part (code_line (Instruction w)))
default_said switch w n small e =
    ap (λ o. option_map said_in (option_and_then (line_before switch (codes "default")) o)) (label_read n small)
    ∙ ap (λ o. option_map said_in (option_map ends o)) e

target_said : (low : ℤ) (labels : List (List ℕ)) (n : ℕ) → fits_label n ≡ true
    → saying_of (Some (table low labels)) (Some (target_words n)) ≡ Some (opens (table low (labels ++ label n ∷ [])))
target_said low labels n small = ap
    (λ o. option_map said_in (option_map goes_on (option_and_then (with_target (table low labels)) o)))
    (label_read n small)

pair_said : (pairs : List (ℤ × List ℕ)) (p : ℤ × ℕ) → is_int p.0 ≡ true → fits_label p.1 ≡ true
    → saying_of (Some (lookup pairs)) (Some (pair_words p)) ≡ Some (opens (lookup (pairs ++ (p.0, label p.1) ∷ [])))
pair_said pairs p key small =
    ap (λ o. option_map said_in (option_and_then (line_before (lookup pairs) (signed_decimal p.0)) o))
    (label_read p.1 small)
    ∙ ap (λ (b : Bool). option_map said_in (if b then option_map ends (with_default (lookup pairs) (label p.1))
    else option_map goes_on
    (with_pair (lookup pairs) (number_in (negsuc 2147483647) (pos 2147483647) (signed_decimal p.0)) (label p.1))))
    (number_other p.0 100 (codes "efault") key refl refl)
    ∙ ap (λ o. option_map said_in (option_map goes_on (with_pair (lookup pairs) o (label p.1))))
    (signed_back 2147483647 2147483647 p.0 (omega arith) (omega arith) key)

-- ---- a table

abbrev table_written : ℤ → List ℕ → List (List ℕ) → ℕ → Written
table_written low first labels n =
    instruction.TableSwitch (record { low = low; targets = first ∷ labels; default = label n })

table_lines : (low : ℤ) (first : List ℕ) (labels : List (List ℕ)) (ts : List ℕ) (n : ℕ) (ss : List Statement)
    → list_all fits_label ts ≡ true → fits_label n ≡ true
    → parts_from (map Some (map target_words ts ++ default_words n ∷ []) ++ ss) (Some (table low (first ∷ labels)))
    ≡ part_before (code_line (Instruction (table_written low first (labels ++ map label ts) n)))
    (parts_from ss None)
table_lines low first labels [] n ss small last =
    next_said (table low (first ∷ labels)) (part (code_line (Instruction (table_written low first labels n))))
    (default_words n) ss
    (default_said (table low (first ∷ labels)) (table_written low first labels n) n last refl)
    ∙ ap (λ xs. part_before (code_line (Instruction (table_written low first xs n))) (parts_from ss None))
    (sym (append-nil labels))
table_lines low first labels (t ∷ ts) n ss small last =
    let parts = and_parts (fits_label t) (list_all fits_label ts) small in
    next_said (table low (first ∷ labels)) (opens (table low (first ∷ labels ++ label t ∷ []))) (target_words t)
    (map Some (map target_words ts ++ default_words n ∷ []) ++ ss)
    (target_said low (first ∷ labels) t parts.0)
    ∙ table_lines low first (labels ++ label t ∷ []) ts n ss parts.1 last
    ∙ ap (λ xs. part_before (code_line (Instruction (table_written low first xs n))) (parts_from ss None))
    (append_assoc labels (label t ∷ []) (map label ts))

table_head : (low : ℤ) → is_int low ≡ true → said_by (table_words low) ≡ Some (opens (table low []))
table_head low e = ap (λ o. option_map opens (option_map (λ n. table n []) o))
    (signed_back 2147483647 2147483647 low (omega arith) (omega arith) e)

table_targets : (low : ℤ) (ts : List ℕ) (n : ℕ) (ss : List Statement) → is_int low ≡ true → nat_le 1 (length ts) ≡ true
    → list_all fits_label ts ≡ true → fits_label n ≡ true
    → ReadBack (instruction.TableSwitch (record { low = low; targets = ts; default = n })) ss
table_targets low [] n ss key some small last = absurd cc
table_targets low (t ∷ ts) n ss key some small last =
    let parts = and_parts (fits_label t) (list_all fits_label ts) small in
    ap (λ o. parts_by o (parts_from (Some (target_words t) ∷ map Some (map target_words ts ++ default_words n ∷ [])
    ++ ss))) (table_head low key)
    ∙ next_said (table low []) (opens (table low (label t ∷ []))) (target_words t)
    (map Some (map target_words ts ++ default_words n ∷ []) ++ ss) (target_said low [] t parts.0)
    ∙ table_lines low (label t) [] ts n ss parts.1 last

pub table_back : (t : Table ℕ) (ss : List Statement) → table_is_spelled t ≡ true
    → list_all fits_label (targets (instruction.TableSwitch t)) ≡ true → ReadBack (instruction.TableSwitch t) ss
table_back t ss e small =
    let parts = and_parts (is_int t.low) (nat_le 1 (length t.targets)) e in
    let fit = all_parts fits_label t.targets (t.default ∷ []) small in
    table_targets t.low t.targets t.default ss parts.0 parts.1 fit.0 (and_parts (fits_label t.default) true fit.1).0

-- ---- a lookup

abbrev lookup_written : List (ℤ × List ℕ) → ℕ → Written
lookup_written pairs n = instruction.LookupSwitch (record { pairs = pairs; default = label n })

abbrev labelled : List (ℤ × ℕ) → List (ℤ × List ℕ)
labelled ps = map (λ (p : ℤ × ℕ). (p.0, label p.1)) ps

lookup_lines : (pairs : List (ℤ × List ℕ)) (ps : List (ℤ × ℕ)) (n : ℕ) (ss : List Statement)
    → list_all (λ p. is_int p.0) ps ≡ true → list_all fits_label (map (λ p. p.1) ps) ≡ true → fits_label n ≡ true
    → parts_from (map Some (map pair_words ps ++ default_words n ∷ []) ++ ss) (Some (lookup pairs))
    ≡ part_before (code_line (Instruction (lookup_written (pairs ++ labelled ps) n))) (parts_from ss None)
lookup_lines pairs [] n ss keys small last =
    next_said (lookup pairs) (part (code_line (Instruction (lookup_written pairs n)))) (default_words n) ss
    (default_said (lookup pairs) (lookup_written pairs n) n last refl)
    ∙ ap (λ xs. part_before (code_line (Instruction (lookup_written xs n))) (parts_from ss None))
    (sym (append-nil pairs))
lookup_lines pairs (p ∷ ps) n ss keys small last =
    let key = and_parts (is_int p.0) (list_all (λ q. is_int q.0) ps) keys in
    let fit = and_parts (fits_label p.1) (list_all fits_label (map (λ q. q.1) ps)) small in
    next_said (lookup pairs) (opens (lookup (pairs ++ (p.0, label p.1) ∷ []))) (pair_words p)
    (map Some (map pair_words ps ++ default_words n ∷ []) ++ ss) (pair_said pairs p key.0 fit.0)
    ∙ lookup_lines (pairs ++ (p.0, label p.1) ∷ []) ps n ss key.1 fit.1 last
    ∙ ap (λ xs. part_before (code_line (Instruction (lookup_written xs n))) (parts_from ss None))
    (append_assoc pairs ((p.0, label p.1) ∷ []) (labelled ps))

pub lookup_back : (l : Lookup ℕ) (ss : List Statement) → lookup_is_spelled l ≡ true
    → list_all fits_label (targets (instruction.LookupSwitch l)) ≡ true → ReadBack (instruction.LookupSwitch l) ss
lookup_back l ss e small =
    let fit = all_parts fits_label (map (λ p. p.1) l.pairs) (l.default ∷ []) small in
    lookup_lines [] l.pairs l.default ss e fit.0 (and_parts (fits_label l.default) true fit.1).0
