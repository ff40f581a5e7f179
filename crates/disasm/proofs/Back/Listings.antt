-- The tree of a listing's text has the listing, and its labels agree.
use Rattle.std.proofs.Common.{◌≡◌, ℕ, ℤ, ◌≤◌, Bool, true, ◌&&◌, ◌==◌, nat_le, List, [], ◌∷◌, map, length, take}
use Rattle.std.proofs.Common.{flat_map, Option, Some, None, refl, ap, ap₂, ◌∙◌, leb-true, take_all}
use Rattle.std.specs.List.{list_all}
use Rattle.std.specs.Option.{option_map}
use Rattle.std.proofs.lemmas.Bool.{and_parts, and_from, or_left}
use Rattle.model.specs.declared.listings.ExceptionRow.{ExceptionRow}
use Rattle.model.specs.declared.listings.Method.{Method}
use Rattle.model.specs.declared.listings.Placed.{Placed}
use Rattle.model.specs.ClassFiles.Methods.{are_method_flags, wants_code, units_fit}
use Rattle.model.specs.ClassListings.{ClassListing}
use Rattle.model.specs.CodeListings.{CodeListing}
use Rattle.model.specs.Texts.Assembling.{end_from}
use Rattle.model.specs.Texts.Descriptors.{arguments_of}
use Rattle.model.specs.Texts.Disassembling.{label, is_named, named_pcs, row_pcs, placed_targets, targets}
use Rattle.model.specs.Texts.Flags.{has}
use Rattle.model.specs.Texts.Labels.{pc_of}
use Rattle.model.specs.Texts.ListingOfTree.{listing_of, method_listing, code_listing, code_with, row_with, placed_from}
use Rattle.model.specs.Texts.Names.{is_class_name, is_method_name}
use Rattle.model.specs.Texts.Spelled.{is_spelled, head_is_spelled, field_is_spelled, is_u2, is_pc, is_bound, stand_from}
use Rattle.model.specs.Texts.Spelled.{operands_are_spelled, instruction_is_spelled, catch_is_spelled, row_is_spelled}
use Rattle.model.specs.Texts.Spelled.{code_is_spelled, body_is_spelled, method_is_spelled, numbers_of_code, ldc_numbers}
use Rattle.model.specs.Texts.Uses.{labels_agree, labels_in, count_in, leads_on}
use Rattle.model.specs.Texts.Widths.{is_among, different, narrow_numbers}
use Rattle.disasm.specs.Back.{tree_back, method_back, body_back, row_back, lines_back, code_fits, pcs_fit}
use Rattle.disasm.proofs.Back.Lists.{all_and, all_from, all_parts, all_flat, map_again, named_all}
use Rattle.disasm.proofs.Back.Pcs.{pc_found, placed_back}
use Rattle.disasm.proofs.Back.Uses.{labels_differ, label_leads, label_given, lines_agree, rows_agree}
use Rattle.disasm.proofs.Back.Widths.{used_code, used_methods, all_among, unwidened_lines}

-- ---- what is spelled

-- what is said of code that a text spells
pub record SpelledCode (c : CodeListing) : Type 0 where
  pub stack : is_u2 c.max_stack ≡ true
  pub locals : is_u2 c.max_locals ≡ true
  pub stands : stand_from 0 c.instructions ≡ true
  pub each : list_all (instruction_is_spelled c.instructions) c.instructions ≡ true
  pub rows : list_all (row_is_spelled c.instructions) c.rows ≡ true

pub spelled_code : (c : CodeListing) → code_is_spelled c ≡ true → SpelledCode c
spelled_code c e =
    let one = and_parts (is_u2 c.max_stack && is_u2 c.max_locals && stand_from 0 c.instructions
    && list_all (instruction_is_spelled c.instructions) c.instructions) (list_all (row_is_spelled c.instructions)
    c.rows) e in
    let two = and_parts (is_u2 c.max_stack && is_u2 c.max_locals && stand_from 0 c.instructions)
    (list_all (instruction_is_spelled c.instructions) c.instructions) one.0 in
    let three = and_parts (is_u2 c.max_stack && is_u2 c.max_locals) (stand_from 0 c.instructions) two.0 in
    let four = and_parts (is_u2 c.max_stack) (is_u2 c.max_locals) three.0 in
    record { stack = four.0; locals = four.1; stands = three.1; each = two.1; rows = one.1 }

-- what is said of a row that a text spells
pub record SpelledRow (ps : List Placed) (r : ExceptionRow) : Type 0 where
  pub start : is_bound ps r.start ≡ true
  pub end : is_bound ps r.end ≡ true
  pub handler : is_pc ps r.handler ≡ true
  pub class : catch_is_spelled r.class ≡ true

pub spelled_row : (ps : List Placed) (r : ExceptionRow) → row_is_spelled ps r ≡ true → SpelledRow ps r
spelled_row ps r e =
    let one = and_parts (is_bound ps r.start && is_bound ps r.end && is_pc ps r.handler) (catch_is_spelled r.class) e in
    let two = and_parts (is_bound ps r.start && is_bound ps r.end) (is_pc ps r.handler) one.0 in
    let three = and_parts (is_bound ps r.start) (is_bound ps r.end) two.0 in
    record { start = three.0; end = three.1; handler = two.1; class = one.1 }

-- ---- pcs that are named, and where they stand

-- a pc that is named and an instruction's
abbrev is_target : List ℕ → List Placed → ℕ → Bool
is_target pcs ps n = is_named pcs n && is_pc ps n

-- a pc that is named and bounds an instruction
abbrev is_edge : List ℕ → List Placed → ℕ → Bool
is_edge pcs ps n = is_named pcs n && is_bound ps n

target_edge : (pcs : List ℕ) (ps : List Placed) (n : ℕ) → is_target pcs ps n ≡ true → is_edge pcs ps n ≡ true
target_edge pcs ps n e =
    let parts = and_parts (is_named pcs n) (is_pc ps n) e in
    and_from (is_named pcs n) (is_bound ps n) parts.0 (or_left (is_pc ps n) (end_from 0 ps == n) parts.1)

asked_rows : (c : CodeListing) → list_all (λ r. list_all (is_named (named_pcs c)) (row_pcs r)) c.rows ≡ true
asked_rows c = all_flat (is_named (named_pcs c)) row_pcs c.rows
    (all_parts (is_named (named_pcs c)) (flat_map row_pcs c.rows) (flat_map placed_targets c.instructions)
    (named_all (named_pcs c))).0

asked_targets : (c : CodeListing) → list_all (λ p. list_all (is_named (named_pcs c)) (placed_targets p)) c.instructions
    ≡ true
asked_targets c = all_flat (is_named (named_pcs c)) placed_targets c.instructions
    (all_parts (is_named (named_pcs c)) (flat_map row_pcs c.rows) (flat_map placed_targets c.instructions)
    (named_all (named_pcs c))).1

targets_stand : (c : CodeListing) → SpelledCode c
    → list_all (λ p. list_all (is_target (named_pcs c) c.instructions) (targets p.instruction)) c.instructions ≡ true
targets_stand c s =
    let pcs = named_pcs c in
    let ps = c.instructions in
    all_from (λ (p : Placed). list_all (is_named pcs) (placed_targets p) && instruction_is_spelled ps p)
    (λ (p : Placed). list_all (is_target pcs ps) (targets p.instruction))
    (λ p e.
    let parts = and_parts (list_all (is_named pcs) (placed_targets p)) (instruction_is_spelled ps p) e in
    all_and (is_named pcs) (is_pc ps) (targets p.instruction) parts.0 (and_parts (operands_are_spelled p.instruction)
    (list_all (is_pc ps) (targets p.instruction)) parts.1).1)
    ps (all_and (λ (p : Placed). list_all (is_named pcs) (placed_targets p)) (instruction_is_spelled ps) ps
    (asked_targets c) s.each)

-- a row whose pcs are named, as a text spells it
abbrev is_row : CodeListing → ExceptionRow → Bool
is_row c r = list_all (is_named (named_pcs c)) (row_pcs r) && row_is_spelled c.instructions r

rows_stand : (c : CodeListing) → SpelledCode c → list_all (is_row c) c.rows ≡ true
rows_stand c s = all_and (λ (r : ExceptionRow). list_all (is_named (named_pcs c)) (row_pcs r))
    (row_is_spelled c.instructions) c.rows (asked_rows c) s.rows

-- what is said of such a row
record AskedRow (c : CodeListing) (r : ExceptionRow) : Type 0 where
  pub start : is_named (named_pcs c) r.start ≡ true
  pub end : is_named (named_pcs c) r.end ≡ true
  pub handler : is_named (named_pcs c) r.handler ≡ true
  pub spelled : SpelledRow c.instructions r

asked_row : (c : CodeListing) (r : ExceptionRow) → is_row c r ≡ true → AskedRow c r
asked_row c r e =
    let pcs = named_pcs c in
    let parts = and_parts (list_all (is_named pcs) (row_pcs r)) (row_is_spelled c.instructions r) e in
    let one = and_parts (is_named pcs r.start) (list_all (is_named pcs) (r.end ∷ r.handler ∷ [])) parts.0 in
    let two = and_parts (is_named pcs r.end) (list_all (is_named pcs) (r.handler ∷ [])) one.1 in
    record {
      start = one.0;
      end = two.0;
      handler = (and_parts (is_named pcs r.handler) true two.1).0;
      spelled = spelled_row c.instructions r parts.1;
    }

-- ---- code

found_by : (c : CodeListing) → SpelledCode c → end_from 0 c.instructions ≤ 65535 → (n : ℕ)
    → is_edge (named_pcs c) c.instructions n ≡ true → pc_of 0 (lines_back (named_pcs c) 0 c.instructions) (label n) ≡ n
found_by c s small n e =
    let parts = and_parts (is_named (named_pcs c) n) (is_bound c.instructions n) e in
    pc_found (named_pcs c) 0 c.instructions n s.stands small parts.0 parts.1

row_is : (f : List ℕ → ℕ) (r : ExceptionRow) → f (label r.start) ≡ r.start → f (label r.end) ≡ r.end
    → f (label r.handler) ≡ r.handler → row_with f (row_back r) ≡ r
row_is f r a b d =
    let made : ℕ → ℕ → ℕ → ExceptionRow = λ x y z. record { start = x; end = y; handler = z; class = r.class } in
    ap (λ x. made x (f (label r.end)) (f (label r.handler))) a ∙ ap (λ y. made r.start y (f (label r.handler))) b
    ∙ ap (λ z. made r.start r.end z) d

rows_back : (c : CodeListing) → SpelledCode c → end_from 0 c.instructions ≤ 65535
    → map (row_with (pc_of 0 (lines_back (named_pcs c) 0 c.instructions))) (map row_back c.rows) ≡ c.rows
rows_back c s small =
    let pcs = named_pcs c in
    let ps = c.instructions in
    let f = pc_of 0 (lines_back pcs 0 ps) in
    map_again row_back (row_with f) (is_row c)
    (λ r e.
    let a = asked_row c r e in
    let edge : (n : ℕ) → is_named pcs n ≡ true → is_bound ps n ≡ true → f (label n)
    ≡ n = λ n x y. found_by c s small n (and_from (is_named pcs n) (is_bound ps n) x y) in
    row_is f r (edge r.start a.start a.spelled.start) (edge r.end a.end a.spelled.end)
    (edge r.handler a.handler (or_left (is_pc ps r.handler) (end_from 0 ps == r.handler) a.spelled.handler)))
    c.rows (rows_stand c s)

instructions_back : (c : CodeListing) → SpelledCode c → end_from 0 c.instructions ≤ 65535
    → placed_from (pc_of 0 (lines_back (named_pcs c) 0 c.instructions)) 0 (lines_back (named_pcs c) 0 c.instructions)
    ≡ c.instructions
instructions_back c s small =
    let pcs = named_pcs c in
    let ps = c.instructions in
    placed_back (pc_of 0 (lines_back pcs 0 ps)) (is_target pcs ps)
    (λ n e. found_by c s small n (target_edge pcs ps n e)) pcs 0 ps s.stands (targets_stand c s)

code_is : (c : CodeListing) (rows : List ExceptionRow) (ps : List Placed) → rows ≡ c.rows → ps ≡ c.instructions
    → record { max_stack = c.max_stack; max_locals = c.max_locals; rows = rows; instructions = ps } ≡ c
code_is c rows ps a b = ap₂ (λ x y. let d : CodeListing = record {
  max_stack = c.max_stack;
  max_locals = c.max_locals;
  rows = x;
  instructions = y;
} in d) a b

code_back : (narrow : List ℤ) (c : CodeListing) → SpelledCode c → end_from 0 c.instructions ≤ 65535
    → list_all (is_among narrow) (numbers_of_code (Some c)) ≡ true → code_listing narrow (body_back c) ≡ c
code_back narrow c s small among =
    let lines = lines_back (named_pcs c) 0 c.instructions in
    ap (code_with (body_back c)) (unwidened_lines narrow lines (ap (list_all (is_among narrow)) (used_code (Some c))
    ∙ among))
    ∙ code_is c (map (row_with (pc_of 0 lines)) (map row_back c.rows)) (placed_from (pc_of 0 lines) 0 lines)
    (rows_back c s small) (instructions_back c s small)

-- ---- methods

body_again : (narrow : List ℤ) (wanted : Bool) (o : Option CodeListing) → body_is_spelled wanted o ≡ true → code_fits o
    ≡ true → list_all (is_among narrow) (numbers_of_code o) ≡ true
    → option_map (code_listing narrow) (option_map body_back o) ≡ o
body_again narrow wanted None e small among = refl
body_again narrow wanted (Some c) e small among =
    ap Some (code_back narrow c (spelled_code c (and_parts wanted (code_is_spelled c) e).1)
    (leb-true (end_from 0 c.instructions) 65535 small) among)

-- ---- the labels of code

pub labels_agree_back : (c : CodeListing) → SpelledCode c → end_from 0 c.instructions ≤ 65535
    → labels_agree (map row_back c.rows) (lines_back (named_pcs c) 0 c.instructions) ≡ true
unfolding labels_agree
labels_agree_back c s small =
    let pcs = named_pcs c in
    let ps = c.instructions in
    let lines = lines_back pcs 0 ps in
    let leads : (n : ℕ) → is_target pcs ps n ≡ true → leads_on (labels_in lines) (count_in lines) (label n) ≡ true =
    λ n e. let parts = and_parts (is_named pcs n) (is_pc ps n) e in label_leads pcs 0 0 ps n s.stands small parts.0
    parts.1 in
    rw (
      labels_differ pcs 0 0 ps s.stands small,
      lines_agree (labels_in lines) (count_in lines) (is_target pcs ps) leads pcs 0 ps (targets_stand c s),
      rows_agree (labels_in lines) (count_in lines) (is_row c)
          (λ r e.
          let a = asked_row c r e in
          rw (
            label_given pcs 0 0 ps r.start s.stands small a.start a.spelled.start,
            label_given pcs 0 0 ps r.end s.stands small a.end a.spelled.end,
            label_leads pcs 0 0 ps r.handler s.stands small a.handler a.spelled.handler,
          ) refl)
          c.rows (rows_stand c s),
    ) refl

-- ---- a class

-- what is said of a method that a text spells
pub record SpelledMethod (class : ℕ) (m : Method) : Type 0 where
  pub flags : is_u2 m.flags.0 ≡ true
  pub agree : are_method_flags class m.flags.0 ≡ true
  pub name : is_method_name m.name ≡ true
  pub units : units_fit (has m.flags.0 0x0008) (arguments_of m.descriptor) ≡ true
  pub body : body_is_spelled (wants_code m.flags.0) m.code ≡ true

pub spelled_method : (class : ℕ) (m : Method) → method_is_spelled class m ≡ true → SpelledMethod class m
spelled_method class m e =
    let flags = is_u2 m.flags.0 in
    let agree = are_method_flags class m.flags.0 in
    let units = units_fit (has m.flags.0 0x0008) (arguments_of m.descriptor) in
    let one = and_parts (flags && agree && is_method_name m.name && units)
    (body_is_spelled (wants_code m.flags.0) m.code) e in
    let two = and_parts (flags && agree && is_method_name m.name) units one.0 in
    let three = and_parts (flags && agree) (is_method_name m.name) two.0 in
    let four = and_parts flags agree three.0 in
    record { flags = four.0; agree = four.1; name = three.1; units = two.1; body = one.1 }

-- what is said of a class that a text spells
pub record SpelledClass (l : ClassListing) : Type 0 where
  pub head : head_is_spelled l.flags.0 l.superclass ≡ true
  pub name : is_class_name l.name ≡ true
  pub superclass : is_class_name l.superclass ≡ true
  pub interfaces : list_all is_class_name l.interfaces ≡ true
  pub fields : list_all (field_is_spelled l.flags.0) l.fields ≡ true
  pub methods : list_all (method_is_spelled l.flags.0) l.methods ≡ true
  pub few : length (different (ldc_numbers l.methods)) ≤ 255

pub spelled_class : (l : ClassListing) → is_spelled l ≡ true → SpelledClass l
unfolding is_spelled
spelled_class l e =
    let head = head_is_spelled l.flags.0 l.superclass in
    let interfaces = list_all is_class_name l.interfaces in
    let fields = list_all (field_is_spelled l.flags.0) l.fields in
    let methods = list_all (method_is_spelled l.flags.0) l.methods in
    let few = nat_le (length (different (ldc_numbers l.methods))) 255 in
    let one = and_parts (head && is_class_name l.name && is_class_name l.superclass && interfaces && fields && methods)
    few e in
    let two = and_parts (head && is_class_name l.name && is_class_name l.superclass && interfaces && fields) methods
    one.0 in
    let three = and_parts (head && is_class_name l.name && is_class_name l.superclass && interfaces) fields two.0 in
    let four = and_parts (head && is_class_name l.name && is_class_name l.superclass) interfaces three.0 in
    let five = and_parts (head && is_class_name l.name) (is_class_name l.superclass) four.0 in
    let six = and_parts head (is_class_name l.name) five.0 in
    record {
      head = six.0;
      name = six.1;
      superclass = five.1;
      interfaces = four.1;
      fields = three.1;
      methods = two.1;
      few = leb-true (length (different (ldc_numbers l.methods))) 255 one.1;
    }

methods_back : (narrow : List ℤ) (class : ℕ) (ms : List Method) → list_all (method_is_spelled class) ms ≡ true
    → list_all (λ m. code_fits m.code) ms ≡ true → list_all (is_among narrow) (ldc_numbers ms) ≡ true
    → map (method_listing narrow) (map method_back ms) ≡ ms
methods_back narrow class [] e small among = refl
methods_back narrow class (m ∷ ms) e small among =
    let spelled = and_parts (method_is_spelled class m) (list_all (method_is_spelled class) ms) e in
    let fit = and_parts (code_fits m.code) (list_all (λ n. code_fits n.code) ms) small in
    let used = all_parts (is_among narrow) (numbers_of_code m.code) (ldc_numbers ms) among in
    let made : Option CodeListing → Method = λ o. record {
      flags = m.flags;
      name = m.name;
      descriptor = m.descriptor;
      code = o;
    } in
    ap₂ (λ o rest. made o ∷ rest) (body_again narrow (wants_code m.flags.0) m.code
    (spelled_method class m spelled.0).body fit.0 used.0) (methods_back narrow class ms spelled.1 fit.1 used.1)

narrow_back : (ms : List Method) → length (different (ldc_numbers ms)) ≤ 255 → narrow_numbers (map method_back ms)
    ≡ different (ldc_numbers ms)
narrow_back ms few = ap (λ zs. take 255 (different zs)) (used_methods ms) ∙ take_all 255 (different (ldc_numbers ms))
    few

-- the listing of the tree of a listing's text
pub listing_back : (l : ClassListing) → is_spelled l ≡ true → pcs_fit l ≡ true → listing_of (tree_back l) ≡ l
unfolding tree_back listing_of pcs_fit
listing_back l e small =
    let s = spelled_class l e in
    let made : List Method → ClassListing = λ ms. record {
      name = l.name;
      flags = l.flags;
      superclass = l.superclass;
      interfaces = l.interfaces;
      fields = l.fields;
      methods = ms;
    } in
    ap made (ap (λ narrow. map (method_listing narrow) (map method_back l.methods)) (narrow_back l.methods s.few)
    ∙ methods_back (different (ldc_numbers l.methods)) l.flags.0 l.methods s.methods small
    (all_among (ldc_numbers l.methods)))
