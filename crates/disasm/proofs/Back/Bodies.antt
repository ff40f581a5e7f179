-- The body of a method is read back from its statements.
use Rattle.std.proofs.Common.{◌≡◌, ℕ, ◌^◌, ◌<◌, ◌≤◌, Bool, true, false, not, ◌&&◌, List, [], ◌∷◌, ◌++◌, map, codes}
use Rattle.std.proofs.Common.{bytes_eq, Option, Some, None, refl, sym, ap, ap₂, ◌∙◌, arith, le-leb, append_assoc}
use Rattle.std.proofs.Common.{append-nil}
use Rattle.std.specs.List.{list_all}
use Rattle.std.specs.Option.{option_map, option_and_then}
use Rattle.std.proofs.lemmas.Bool.{and_parts, and_from}
use Rattle.std.proofs.lemmas.List.{map-append}
use Rattle.model.specs.declared.listings.ExceptionRow.{ExceptionRow}
use Rattle.model.specs.declared.listings.Placed.{Placed}
use Rattle.model.specs.declared.trees.TextLine.{TextLine}
use Rattle.model.specs.declared.trees.TextLine.TheVariants.{Label, Instruction}
use Rattle.model.specs.CodeListings.{CodeListing}
use Rattle.model.specs.Texts.Assembling.{end_from}
use Rattle.model.specs.Texts.Disassembling.{label, is_named, named_pcs, catch_name, targets}
use Rattle.model.specs.Texts.Labels.{with_targets}
use Rattle.model.specs.Texts.Methods.{Part, stack_limit, locals_limit, catch_row, code_line, part, said_by, line_of}
use Rattle.model.specs.Texts.Methods.{row_with, catch_class, part_before, parts_by, parts_from, parts_of, stack_limits}
use Rattle.model.specs.Texts.Methods.{locals_limits, catch_rows, code_lines, body_with, body_of_parts, agreeing}
use Rattle.model.specs.Texts.Methods.{body_of}
use Rattle.model.specs.Texts.Names.{is_class_name}
use Rattle.model.specs.Texts.Spelled.{is_u2, is_pc, stand_from, operands_are_spelled, instruction_is_spelled}
use Rattle.model.specs.Texts.Spelled.{catch_is_spelled, row_is_spelled}
use Rattle.model.specs.Texts.Statements.{Statement}
use Rattle.disasm.specs.Back.{label_back, lines_back, row_back, body_back}
use Rattle.disasm.specs.Statements.{instruction_statements, label_statements, statements_from, row_words, stack_words}
use Rattle.disasm.specs.Statements.{locals_words, code_statements}
use Rattle.disasm.proofs.Back.Instructions.{fits_label, instruction_back}
use Rattle.disasm.proofs.Back.Listings.{SpelledCode, spelled_row, labels_agree_back}
use Rattle.disasm.proofs.Back.Lists.{all_from}
use Rattle.disasm.proofs.Back.Numbers.{natural_to_back}
use Rattle.disasm.proofs.Back.Pcs.{first_of, rises, pc_inside, bound_inside}
use Rattle.disasm.proofs.Back.Switches.{table_back, lookup_back}
use Rattle.disasm.proofs.Back.Words.{label_is_part, label_given_back}

-- what a statement says, and then the others
said_then : (p : Part) (words : List (List ℕ)) (ss : List Statement) → said_by words ≡ Some (part p)
    → parts_from (Some words ∷ ss) None ≡ part_before p (parts_from ss None)
said_then p words ss e = ap (λ o. parts_by o (parts_from ss)) e

-- ---- labels and instructions

given_said : (pc : ℕ) → pc < 10 ^ 64 → said_by ((label pc ++ codes ":") ∷ [])
    ≡ Some (part (code_line (Label (label pc))))
given_said pc small = ap (λ o. option_map (λ line. part (code_line line)) (line_of o (label pc ++ codes ":") []))
    (label_given_back pc small)

labels_read : (b : Bool) (pc : ℕ) (ss : List Statement) (ps : List Part) → pc ≤ 65535 → parts_from ss None ≡ Some ps
    → parts_from (map Some (label_statements b pc) ++ ss) None ≡ Some (map code_line (label_back b pc) ++ ps)
labels_read false pc ss ps small e = e
labels_read true pc ss ps small e =
    said_then (code_line (Label (label pc))) ((label pc ++ codes ":") ∷ []) ss (given_said pc (omega (arith, small)))
    ∙ ap (part_before (code_line (Label (label pc)))) e

-- an instruction that is read back
abbrev is_readable : Placed → Bool
is_readable p = operands_are_spelled p.instruction && list_all fits_label (targets p.instruction)

lines_read : (pcs : List ℕ) (pc : ℕ) (ps : List Placed) → stand_from pc ps ≡ true → end_from pc ps ≤ 65535
    → list_all is_readable ps ≡ true
    → parts_from (map Some (statements_from pcs pc ps)) None ≡ Some (map code_line (lines_back pcs pc ps))
lines_read pcs pc [] s small e =
    ap (λ xs. parts_from xs None) (sym (append-nil (map Some (label_statements (is_named pcs pc) pc))))
    ∙ labels_read (is_named pcs pc) pc [] [] small refl
    ∙ ap Some (append-nil (map code_line (label_back (is_named pcs pc) pc)))
lines_read pcs pc (p ∷ ps) s small e =
    let h = first_of pc p ps s in
    let at = h.at in
    let risen = rises pc (p ∷ ps) s in
    let parts = and_parts (is_readable p) (list_all is_readable ps) e in
    let one = and_parts (operands_are_spelled p.instruction) (list_all fits_label (targets p.instruction)) parts.0 in
    let given = label_statements (is_named pcs p.pc) p.pc in
    let instruction = instruction_statements p.instruction in
    let rest = statements_from pcs p.next ps in
    let line = Instruction (with_targets label p.instruction) in
    let following : parts_from (map Some instruction ++ map Some rest) None
    ≡ Some (code_line line ∷ map code_line (lines_back pcs p.next ps)) =
    instruction_back table_back lookup_back p.instruction (map Some rest) one.0 one.1
    ∙ ap (part_before (code_line line)) (lines_read pcs p.next ps h.others small parts.1) in
    ap (λ xs. parts_from xs None) (map-append Some (given ++ instruction) rest
    ∙ ap (λ xs. xs ++ map Some rest) (map-append Some given instruction) ∙ append_assoc (map Some given) (map Some
    instruction) (map Some rest))
    ∙ labels_read (is_named pcs p.pc) p.pc (map Some instruction ++ map Some rest) (code_line line
    ∷ map code_line (lines_back pcs p.next ps)) (omega (arith, at, risen, small)) following
    ∙ ap Some (sym (map-append code_line (label_back (is_named pcs p.pc) p.pc) (line ∷ lines_back pcs p.next ps)))

-- ---- rows

false_from_not : (b : Bool) → not b ≡ true → b ≡ false
false_from_not true e = absurd cc
false_from_not false e = refl

catch_back : (o : Option (List ℕ)) → catch_is_spelled o ≡ true → catch_class (catch_name o) ≡ Some o
catch_back None e = refl
catch_back (Some name) e =
    let parts = and_parts (is_class_name name) (not (bytes_eq name (codes "all"))) e in
    rw (false_from_not (bytes_eq name (codes "all")) parts.1, parts.0) refl

-- the labels of a row fit
record RowFits (r : ExceptionRow) : Type 0 where
  pub start : r.start ≤ 65535
  pub end : r.end ≤ 65535
  pub handler : r.handler ≤ 65535
  pub class : catch_is_spelled r.class ≡ true

row_fits : (ps : List Placed) (r : ExceptionRow) → stand_from 0 ps ≡ true → end_from 0 ps ≤ 65535 → row_is_spelled ps r
    ≡ true → RowFits r
row_fits ps r s small e =
    let row = spelled_row ps r e in
    let start = bound_inside 0 ps r.start s row.start in
    let end = bound_inside 0 ps r.end s row.end in
    let handler = pc_inside 0 ps r.handler s row.handler in
    record {
      start = omega (arith, start, small);
      end = omega (arith, end, small);
      handler = omega (arith, handler.1, small);
      class = row.class;
    }

row_said : (r : ExceptionRow) → RowFits r → said_by (row_words r) ≡ Some (part (catch_row (row_back r)))
row_said r fit =
    let start = fit.start in
    let end = fit.end in
    let handler = fit.handler in
    rw (
      label_is_part r.start (omega (arith, start)),
      label_is_part r.end (omega (arith, end)),
      label_is_part r.handler (omega (arith, handler)),
    )
    (ap (λ o. option_map (λ row. part (catch_row row))
    (option_map (row_with (label r.start) (label r.end) (label r.handler)) o)) (catch_back r.class fit.class))

abbrev row_parts : List ExceptionRow → List Part
row_parts rs = map (λ (r : ExceptionRow). catch_row (row_back r)) rs

rows_read : (ps : List Placed) (rs : List ExceptionRow) (ss : List Statement) (parts : List Part) → stand_from 0 ps
    ≡ true → end_from 0 ps ≤ 65535 → list_all (row_is_spelled ps) rs ≡ true → parts_from ss None ≡ Some parts
    → parts_from (map Some (map row_words rs) ++ ss) None ≡ Some (row_parts rs ++ parts)
rows_read ps [] ss parts s small e h = h
rows_read ps (r ∷ rs) ss parts s small e h =
    let both = and_parts (row_is_spelled ps r) (list_all (row_is_spelled ps) rs) e in
    said_then (catch_row (row_back r)) (row_words r) (map Some (map row_words rs) ++ ss)
    (row_said r (row_fits ps r s small both.0))
    ∙ ap (part_before (catch_row (row_back r))) (rows_read ps rs ss parts s small both.1 h)

-- ---- parts

stack_of_lines : (lines : List TextLine) → stack_limits (map code_line lines) ≡ []
stack_of_lines [] = refl
stack_of_lines (l ∷ ls) = stack_of_lines ls

locals_of_lines : (lines : List TextLine) → locals_limits (map code_line lines) ≡ []
locals_of_lines [] = refl
locals_of_lines (l ∷ ls) = locals_of_lines ls

rows_of_lines : (lines : List TextLine) → catch_rows (map code_line lines) ≡ []
rows_of_lines [] = refl
rows_of_lines (l ∷ ls) = rows_of_lines ls

lines_of_lines : (lines : List TextLine) → code_lines (map code_line lines) ≡ lines
lines_of_lines [] = refl
lines_of_lines (l ∷ ls) = ap (λ xs. l ∷ xs) (lines_of_lines ls)

stack_of : (rs : List ExceptionRow) (lines : List TextLine) → stack_limits (row_parts rs ++ map code_line lines) ≡ []
stack_of [] lines = stack_of_lines lines
stack_of (r ∷ rs) lines = stack_of rs lines

locals_of : (rs : List ExceptionRow) (lines : List TextLine) → locals_limits (row_parts rs ++ map code_line lines) ≡ []
locals_of [] lines = locals_of_lines lines
locals_of (r ∷ rs) lines = locals_of rs lines

rows_of : (rs : List ExceptionRow) (lines : List TextLine) → catch_rows (row_parts rs ++ map code_line lines)
    ≡ map row_back rs
rows_of [] lines = rows_of_lines lines
rows_of (r ∷ rs) lines = ap (λ xs. row_back r ∷ xs) (rows_of rs lines)

lines_of : (rs : List ExceptionRow) (lines : List TextLine) → code_lines (row_parts rs ++ map code_line lines) ≡ lines
lines_of [] lines = lines_of_lines lines
lines_of (r ∷ rs) lines = lines_of rs lines

body_from : (stack locals : ℕ) (rs : List ExceptionRow) (lines : List TextLine)
    → body_of_parts (stack_limit stack ∷ locals_limit locals ∷ row_parts rs ++ map code_line lines)
    ≡ Some (record { max_stack = stack; max_locals = locals; rows = map row_back rs; lines = lines })
body_from stack locals rs lines =
    ap₂ (λ a b. body_with (stack ∷ a) (locals ∷ b) (catch_rows (row_parts rs ++ map code_line lines))
    (code_lines (row_parts rs ++ map code_line lines))) (stack_of rs lines) (locals_of rs lines)
    ∙ ap₂ (λ a b. body_with (stack ∷ []) (locals ∷ []) a b) (rows_of rs lines) (lines_of rs lines)

-- ---- a body

stack_said : (n : ℕ) → is_u2 n ≡ true → said_by (stack_words n) ≡ Some (part (stack_limit n))
stack_said n e = ap (λ o. option_map part (option_map stack_limit o)) (natural_to_back 65535 n (omega arith) e)

locals_said : (n : ℕ) → is_u2 n ≡ true → said_by (locals_words n) ≡ Some (part (locals_limit n))
locals_said n e = ap (λ o. option_map part (option_map locals_limit o)) (natural_to_back 65535 n (omega arith) e)

readable_from : (all : List Placed) → stand_from 0 all ≡ true → end_from 0 all ≤ 65535 → (p : Placed)
    → instruction_is_spelled all p ≡ true → is_readable p ≡ true
readable_from all s small p e =
    let parts = and_parts (operands_are_spelled p.instruction) (list_all (is_pc all) (targets p.instruction)) e in
    and_from (operands_are_spelled p.instruction) (list_all fits_label (targets p.instruction)) parts.0
    (all_from (is_pc all) fits_label (λ n at. let inside = pc_inside 0 all n s at
    in le-leb n 65535 (omega (arith, inside.1, small)))
    (targets p.instruction) parts.1)

abbrev pub parts_back : CodeListing → List Part
parts_back c = stack_limit c.max_stack ∷ locals_limit c.max_locals ∷ row_parts c.rows
    ++ map code_line (lines_back (named_pcs c) 0 c.instructions)

pub parts_read : (c : CodeListing) → SpelledCode c → end_from 0 c.instructions ≤ 65535
    → parts_of (map Some (code_statements c)) ≡ Some (parts_back c)
parts_read c s small =
    let ps = c.instructions in
    let lines = lines_back (named_pcs c) 0 ps in
    let code = map Some (statements_from (named_pcs c) 0 ps) in
    let rows = map Some (map row_words c.rows) in
    let code_is : parts_from code None ≡ Some (map code_line lines) = lines_read (named_pcs c) 0 ps s.stands small
    (all_from (instruction_is_spelled ps) is_readable (readable_from ps s.stands small) ps s.each) in
    let rows_are : parts_from (rows ++ code) None ≡ Some (row_parts c.rows ++ map code_line lines) = rows_read ps c.rows
    code (map code_line lines) s.stands small s.rows code_is in
    ap (λ xs. parts_of (Some (stack_words c.max_stack) ∷ Some (locals_words c.max_locals) ∷ xs))
    (map-append Some (map row_words c.rows) (statements_from (named_pcs c) 0 ps))
    ∙ said_then (stack_limit c.max_stack) (stack_words c.max_stack) (Some (locals_words c.max_locals) ∷ rows ++ code)
    (stack_said c.max_stack s.stack)
    ∙ ap (part_before (stack_limit c.max_stack)) (said_then (locals_limit c.max_locals) (locals_words c.max_locals)
    (rows ++ code) (locals_said c.max_locals s.locals) ∙ ap (part_before (locals_limit c.max_locals)) rows_are)

pub body_again : (c : CodeListing) → SpelledCode c → end_from 0 c.instructions ≤ 65535
    → body_of (map Some (code_statements c)) ≡ Some (body_back c)
body_again c s small =
    ap (λ o. option_and_then agreeing (option_and_then body_of_parts o)) (parts_read c s small)
    ∙ ap (option_and_then agreeing) (body_from c.max_stack c.max_locals c.rows
    (lines_back (named_pcs c) 0 c.instructions))
    ∙ rw (labels_agree_back c s small) refl
