-- The parts of a method's body have the ranges and forms that a listing asks for.
use Rattle.std.proofs.Common.{◌≡◌, ℕ, true, not, ◌&&◌, List, [], ◌∷◌, refl, Some, None, Option, codes}
use Rattle.std.specs.Prelude.{IfSome, if◌then◌else◌}
use Rattle.std.specs.List.{AllByRecursion}
use Rattle.std.specs.Option.{option_map, option_and_then}
use Rattle.std.specs.Str.{bytes_eq}
use Rattle.std.proofs.lemmas.Option.{IfSome_then}
use Rattle.model.specs.declared.trees.CatchRow.{CatchRow}
use Rattle.model.specs.declared.trees.TextLine.{TextLine}
use Rattle.model.specs.declared.trees.TextLine.TheVariants.{Label, Instruction}
use Rattle.model.specs.Texts.Bodies.{Body}
use Rattle.model.specs.Texts.Instructions.{instruction_of}
use Rattle.model.specs.Texts.Methods.{Part, stack_limit, locals_limit, catch_row, code_line, Saying, part, opens}
use Rattle.model.specs.Texts.Methods.{limit_of, catch_class, row_with, catch_of, label_of, line_of, said_by, said_in}
use Rattle.model.specs.Texts.Methods.{saying_of, parts_by, parts_from, stack_limits, locals_limits, catch_rows}
use Rattle.model.specs.Texts.Methods.{code_lines, body_with, body_of_parts, agreeing, body_of}
use Rattle.model.specs.Texts.Names.{is_part, is_class_name}
use Rattle.model.specs.Texts.Numbers.{natural_to}
use Rattle.model.specs.Texts.Operands.{only, class_named}
use Rattle.model.specs.Texts.Spelled.{is_u2, catch_is_spelled}
use Rattle.model.specs.Texts.Statements.{Statement}
use Rattle.model.specs.Texts.Switches.{Switch, SwitchLine, goes_on, ends, table_begins, lookup_begins, switch_line}
use Rattle.model.specs.Texts.Uses.{labels_agree}
use Rattle.jasmin.proofs.Spelled.Instructions.{Fits, words_fit}
use Rattle.jasmin.proofs.Spelled.Operands.{natural_fits}
use Rattle.jasmin.proofs.Spelled.Switches.{SwitchFits, LineFits as SwitchLineFits, table_fits, lookup_fits}
use Rattle.jasmin.proofs.Spelled.Switches.{line_fits as switch_line_fits}
use Rattle.jasmin.proofs.Spelled.Partial.{of_map, of_then, of_any, of_if, of_test, and_true}

abbrev pub LineFits : TextLine → Type 0
LineFits (Label l) = Unit {0}
LineFits (Instruction i) = Fits i

abbrev pub RowFits : CatchRow → Type 0
RowFits row = catch_is_spelled row.class ≡ true

abbrev pub PartFits : Part → Type 0
PartFits (stack_limit n) = is_u2 n ≡ true
PartFits (locals_limit n) = is_u2 n ≡ true
PartFits (catch_row row) = RowFits row
PartFits (code_line line) = LineFits line

abbrev pub SayingFits : Saying → Type 0
SayingFits (part p) = PartFits p
SayingFits (opens s) = SwitchFits s

-- ---- statements

limit_fits : (words : List (List ℕ)) → IfSome (limit_of words) PartFits
limit_fits [] = tt
limit_fits (word ∷ words) =
    of_test PartFits (bytes_eq word (codes "stack"))
    (option_map stack_limit (option_and_then (natural_to 65535) (only words)))
    (if bytes_eq word (codes "locals") then option_map locals_limit (option_and_then (natural_to 65535) (only words))
    else None)
    (λ t. of_map PartFits stack_limit (option_and_then (natural_to 65535) (only words))
    (of_any (λ n. is_u2 n ≡ true) (natural_to 65535) (only words) (natural_fits 65535)))
    (λ f. of_test PartFits (bytes_eq word (codes "locals"))
    (option_map locals_limit (option_and_then (natural_to 65535) (only words))) None
    (λ t. of_map PartFits locals_limit (option_and_then (natural_to 65535) (only words))
    (of_any (λ n. is_u2 n ≡ true) (natural_to 65535) (only words) (natural_fits 65535)))
    (λ g. tt))

catch_class_fits : (word : List ℕ) → IfSome (catch_class word) (λ c. catch_is_spelled c ≡ true)
catch_class_fits word =
    of_test (λ c. catch_is_spelled c ≡ true) (bytes_eq word (codes "all")) (Some None)
    (option_map Some (class_named word))
    (λ t. refl)
    (λ f. of_map (λ c. catch_is_spelled c ≡ true) Some (class_named word)
    (of_if (λ c. catch_is_spelled (Some c) ≡ true) (is_class_name word) word
    (λ t. and_true (is_class_name word) (not (bytes_eq word (codes "all"))) t (rw f refl))))

catch_fits : (words : List (List ℕ)) → IfSome (catch_of words) RowFits
catch_fits (class ∷ from ∷ start ∷ to ∷ end ∷ using ∷ handler ∷ []) =
    of_test RowFits
    (bytes_eq from (codes "from") && bytes_eq to (codes "to") && bytes_eq using (codes "using") && is_part start
    && is_part end && is_part handler)
    (option_map (row_with start end handler) (catch_class class)) None
    (λ t. of_map RowFits (row_with start end handler) (catch_class class) (catch_class_fits class))
    (λ f. tt)
catch_fits words = tt

text_line_fits : (label : Option (List ℕ)) (word : List ℕ) (words : List (List ℕ))
    → IfSome (line_of label word words) LineFits
text_line_fits None word words = of_map LineFits Instruction (instruction_of (word ∷ words)) (words_fit (word ∷ words))
text_line_fits (Some label) word [] = tt
text_line_fits (Some label) word (next ∷ words) = tt

said_fits : (words : List (List ℕ)) → IfSome (said_by words) SayingFits
said_fits [] = tt
said_fits (word ∷ words) =
    of_test SayingFits (bytes_eq word (codes ".limit")) (option_map part (limit_of words)) _
    (λ t. of_map SayingFits part (limit_of words) (limit_fits words))
    (λ f. of_test SayingFits (bytes_eq word (codes ".catch")) (option_map (λ row. part (catch_row row))
    (catch_of words)) _
    (λ t. of_map SayingFits (λ row. part (catch_row row)) (catch_of words) (catch_fits words))
    (λ f. of_test SayingFits (bytes_eq word (codes "tableswitch")) (option_map opens (table_begins words)) _
    (λ t. of_map SayingFits opens (table_begins words) (table_fits words))
    (λ f. of_test SayingFits (bytes_eq word (codes "lookupswitch")) (option_map opens (lookup_begins words)) _
    (λ t. of_map SayingFits opens (lookup_begins words) (lookup_fits words))
    (λ f. of_map SayingFits (λ line. part (code_line line)) (line_of (label_of word) word words)
    (text_line_fits (label_of word) word words)))))

said_in_fits : (line : SwitchLine) → SwitchLineFits line → SayingFits (said_in line)
said_in_fits (goes_on s) h = h
said_in_fits (ends i) h = h

saying_fits : (current : Option Switch) (s : Statement) → IfSome current SwitchFits
    → IfSome (saying_of current s) SayingFits
saying_fits None s h = of_any SayingFits said_by s said_fits
saying_fits (Some switch) s h =
    of_map SayingFits said_in (option_and_then (switch_line switch) s)
    (of_any (λ line. SayingFits (said_in line)) (switch_line switch) s
    (λ words. IfSome_then (switch_line switch words) (switch_line_fits switch words h) said_in_fits))

-- ---- parts

by_fits : (said : Option Saying) (rest : Option Switch → Option (List Part)) → IfSome said SayingFits
    → ((current : Option Switch) → IfSome current SwitchFits → IfSome (rest current) (AllByRecursion PartFits))
    → IfSome (parts_by said rest) (AllByRecursion PartFits)
by_fits None rest h k = tt
by_fits (Some (part p)) rest h k =
    of_map (AllByRecursion PartFits) (λ parts. p ∷ parts) (rest None)
    (IfSome_then (rest None) (k None tt) (λ parts all. (h, all)))
by_fits (Some (opens s)) rest h k = k (Some s) h

parts_fit : (ss : List Statement) (current : Option Switch) → IfSome current SwitchFits
    → IfSome (parts_from ss current) (AllByRecursion PartFits)
parts_fit [] None h = tt
parts_fit [] (Some switch) h = tt
parts_fit (s ∷ ss) current h = by_fits (saying_of current s) (parts_from ss) (saying_fits current s h) (parts_fit ss)

stack_fits : (parts : List Part) → AllByRecursion PartFits parts
    → AllByRecursion (λ n. is_u2 n ≡ true) (stack_limits parts)
stack_fits [] all = tt
stack_fits (stack_limit n ∷ parts) all = (all.0, stack_fits parts all.1)
stack_fits (locals_limit n ∷ parts) all = stack_fits parts all.1
stack_fits (catch_row row ∷ parts) all = stack_fits parts all.1
stack_fits (code_line line ∷ parts) all = stack_fits parts all.1

locals_fit : (parts : List Part) → AllByRecursion PartFits parts
    → AllByRecursion (λ n. is_u2 n ≡ true) (locals_limits parts)
locals_fit [] all = tt
locals_fit (stack_limit n ∷ parts) all = locals_fit parts all.1
locals_fit (locals_limit n ∷ parts) all = (all.0, locals_fit parts all.1)
locals_fit (catch_row row ∷ parts) all = locals_fit parts all.1
locals_fit (code_line line ∷ parts) all = locals_fit parts all.1

rows_fit : (parts : List Part) → AllByRecursion PartFits parts → AllByRecursion RowFits (catch_rows parts)
rows_fit [] all = tt
rows_fit (stack_limit n ∷ parts) all = rows_fit parts all.1
rows_fit (locals_limit n ∷ parts) all = rows_fit parts all.1
rows_fit (catch_row row ∷ parts) all = (all.0, rows_fit parts all.1)
rows_fit (code_line line ∷ parts) all = rows_fit parts all.1

lines_fit : (parts : List Part) → AllByRecursion PartFits parts → AllByRecursion LineFits (code_lines parts)
lines_fit [] all = tt
lines_fit (stack_limit n ∷ parts) all = lines_fit parts all.1
lines_fit (locals_limit n ∷ parts) all = lines_fit parts all.1
lines_fit (catch_row row ∷ parts) all = lines_fit parts all.1
lines_fit (code_line line ∷ parts) all = (all.0, lines_fit parts all.1)

-- ---- bodies

pub record PartsFit (body : Body) : Type 0 where
  pub stack : is_u2 body.max_stack ≡ true
  pub locals : is_u2 body.max_locals ≡ true
  pub rows : AllByRecursion RowFits body.rows
  pub lines : AllByRecursion LineFits body.lines

-- a body that has them, and whose labels agree
pub record BodyFits (body : Body) : Type 0 where
  pub parts : PartsFit body
  pub agree : labels_agree body.rows body.lines ≡ true

with_fits : (stack locals : List ℕ) (rows : List CatchRow) (lines : List TextLine)
    → AllByRecursion (λ n. is_u2 n ≡ true) stack → AllByRecursion (λ n. is_u2 n ≡ true) locals
    → AllByRecursion RowFits rows → AllByRecursion LineFits lines → IfSome (body_with stack locals rows lines) PartsFit
with_fits [] locals rows lines s l r c = tt
with_fits (stack ∷ []) [] rows lines s l r c = tt
with_fits (stack ∷ []) (max ∷ []) rows lines s l r c = record { stack = s.0; locals = l.0; rows = r; lines = c }
with_fits (stack ∷ []) (max ∷ other ∷ more) rows lines s l r c = tt
with_fits (stack ∷ other ∷ more) locals rows lines s l r c = tt

of_parts_fits : (parts : List Part) → AllByRecursion PartFits parts → IfSome (body_of_parts parts) PartsFit
of_parts_fits parts all =
    with_fits (stack_limits parts) (locals_limits parts) (catch_rows parts) (code_lines parts)
    (stack_fits parts all) (locals_fit parts all) (rows_fit parts all) (lines_fit parts all)

agreeing_fits : (body : Body) → PartsFit body → IfSome (agreeing body) BodyFits
agreeing_fits body h = of_if BodyFits (labels_agree body.rows body.lines) body (λ t. record { parts = h; agree = t })

pub body_fits : (ss : List Statement) → IfSome (body_of ss) BodyFits
body_fits ss =
    of_then BodyFits agreeing (option_and_then body_of_parts (parts_from ss None))
    (IfSome_then (option_and_then body_of_parts (parts_from ss None))
    (of_then PartsFit body_of_parts (parts_from ss None) (IfSome_then (parts_from ss None) (parts_fit ss None tt)
    of_parts_fits))
    agreeing_fits)
