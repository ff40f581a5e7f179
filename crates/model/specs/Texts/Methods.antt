use Rattle.std.specs.Prelude.{ℕ, ◌-◌, ◌&&◌, List, [], ◌∷◌, length, take, drop, Option, Some, None, codes, if◌then◌else◌}
use Rattle.std.specs.Option.{option_map, option_and_then}
use Rattle.std.specs.Str.{bytes_eq}
use Rattle.model.specs.declared.flags.ClassFlags.{ClassFlags}
use Rattle.model.specs.declared.trees.CatchRow.{CatchRow}
use Rattle.model.specs.declared.trees.MethodTree.{MethodTree}
use Rattle.model.specs.declared.trees.TextLine.{TextLine}
use Rattle.model.specs.declared.trees.TextLine.TheVariants.{Label, Instruction}
use Rattle.model.specs.Texts.Bodies.{Body}
use Rattle.model.specs.Texts.Flags.{has}
use Rattle.model.specs.Texts.Heads.{MethodHead, method_of}
use Rattle.model.specs.Texts.Instructions.{instruction_of}
use Rattle.model.specs.Texts.Names.{is_part}
use Rattle.model.specs.Texts.Numbers.{natural_to}
use Rattle.model.specs.Texts.Operands.{only, class_named, label_named}
use Rattle.model.specs.Texts.Statements.{Statement}
use Rattle.model.specs.Texts.Switches.{Switch, SwitchLine, goes_on, ends, table_begins, lookup_begins, switch_line}
use Rattle.model.specs.Texts.Uses.{labels_agree}

-- a part of a method's body
pub data Part : Type 0 where
  stack_limit : ℕ → Part
  locals_limit : ℕ → Part
  catch_row : CatchRow → Part
  code_line : TextLine → Part

-- what a statement of a body says: a part of it, or what a switch is so far of which lines follow
pub data Saying : Type 0 where
  part : Part → Saying
  opens : Switch → Saying

-- a limit: 0 to 65,535
abbrev pub limit_of : List (List ℕ) → Option Part
limit_of [] = None
limit_of (word ∷ words) =
    if bytes_eq word (codes "stack") then option_map stack_limit (option_and_then (natural_to 65535) (only words))
    else if bytes_eq word (codes "locals")
    then option_map locals_limit (option_and_then (natural_to 65535) (only words)) else None

-- what a row takes: a class, or anything
abbrev pub catch_class : List ℕ → Option (Option (List ℕ))
catch_class word = if bytes_eq word (codes "all") then Some None else option_map Some (class_named word)

abbrev pub row_with : List ℕ → List ℕ → List ℕ → Option (List ℕ) → CatchRow
row_with start end handler class = record { class = class; start = start; end = end; handler = handler }

-- a row: a class, and `from`, `to` and `using` with a label each
abbrev pub catch_of : List (List ℕ) → Option CatchRow
catch_of (class ∷ from ∷ start ∷ to ∷ end ∷ using ∷ handler ∷ []) =
    if bytes_eq from (codes "from") && bytes_eq to (codes "to") && bytes_eq using (codes "using") && is_part start
    && is_part end && is_part handler
    then option_map (row_with start end handler) (catch_class class) else None
catch_of words = None

-- a label is given by its name and a colon after it
abbrev pub label_of : List ℕ → Option (List ℕ)
label_of word = if bytes_eq (drop (length word - 1) word) (codes ":") then label_named (take (length word - 1) word)
    else None

-- a label alone, or an instruction
abbrev pub line_of : Option (List ℕ) → List ℕ → List (List ℕ) → Option TextLine
line_of None word words = option_map Instruction (instruction_of (word ∷ words))
line_of (Some label) word [] = Some (Label label)
line_of (Some label) word (next ∷ words) = None

-- what a statement says where no switch is open
abbrev pub said_by : List (List ℕ) → Option Saying
said_by [] = None
said_by (word ∷ words) =
    if bytes_eq word (codes ".limit") then option_map part (limit_of words)
    else if bytes_eq word (codes ".catch") then option_map (λ row. part (catch_row row)) (catch_of words)
    else if bytes_eq word (codes "tableswitch") then option_map opens (table_begins words)
    else if bytes_eq word (codes "lookupswitch") then option_map opens (lookup_begins words)
    else option_map (λ line. part (code_line line)) (line_of (label_of word) word words)

-- what a line of a switch says
abbrev pub said_in : SwitchLine → Saying
said_in (goes_on switch) = opens switch
said_in (ends i) = part (code_line (Instruction i))

-- what a statement says, where a switch may be open
abbrev pub saying_of : Option Switch → Statement → Option Saying
saying_of None s = option_and_then said_by s
saying_of (Some switch) s = option_map said_in (option_and_then (switch_line switch) s)

abbrev pub part_before : Part → Option (List Part) → Option (List Part)
part_before p rest = option_map (λ parts. p ∷ parts) rest

-- the parts by what a statement says, and by those that follow where a switch is open then, or none
abbrev pub parts_by : Option Saying → (Option Switch → Option (List Part)) → Option (List Part)
parts_by None rest = None
parts_by (Some (part p)) rest = part_before p (rest None)
parts_by (Some (opens switch)) rest = rest (Some switch)

-- the parts of a body, if each statement says something and no switch is left open
abbrev pub parts_from : List Statement → Option Switch → Option (List Part)
parts_from [] None = Some []
parts_from [] (Some switch) = None
parts_from (s ∷ ss) current = parts_by (saying_of current s) (parts_from ss)

abbrev pub parts_of : List Statement → Option (List Part)
parts_of ss = parts_from ss None

-- the stack's limits among the parts of a body
abbrev pub stack_limits : List Part → List ℕ
stack_limits [] = []
stack_limits (stack_limit n ∷ parts) = n ∷ stack_limits parts
stack_limits (locals_limit n ∷ parts) = stack_limits parts
stack_limits (catch_row row ∷ parts) = stack_limits parts
stack_limits (code_line line ∷ parts) = stack_limits parts

abbrev pub locals_limits : List Part → List ℕ
locals_limits [] = []
locals_limits (stack_limit n ∷ parts) = locals_limits parts
locals_limits (locals_limit n ∷ parts) = n ∷ locals_limits parts
locals_limits (catch_row row ∷ parts) = locals_limits parts
locals_limits (code_line line ∷ parts) = locals_limits parts

abbrev pub catch_rows : List Part → List CatchRow
catch_rows [] = []
catch_rows (stack_limit n ∷ parts) = catch_rows parts
catch_rows (locals_limit n ∷ parts) = catch_rows parts
catch_rows (catch_row row ∷ parts) = row ∷ catch_rows parts
catch_rows (code_line line ∷ parts) = catch_rows parts

abbrev pub code_lines : List Part → List TextLine
code_lines [] = []
code_lines (stack_limit n ∷ parts) = code_lines parts
code_lines (locals_limit n ∷ parts) = code_lines parts
code_lines (catch_row row ∷ parts) = code_lines parts
code_lines (code_line line ∷ parts) = line ∷ code_lines parts

-- each limit is given once
abbrev pub body_with : List ℕ → List ℕ → List CatchRow → List TextLine → Option Body
body_with [] locals rows lines = None
body_with (stack ∷ []) [] rows lines = None
body_with (stack ∷ []) (max ∷ []) rows lines = Some (record {
  max_stack = stack;
  max_locals = max;
  rows = rows;
  lines = lines;
})
body_with (stack ∷ []) (max ∷ other ∷ more) rows lines = None
body_with (stack ∷ other ∷ more) locals rows lines = None

abbrev pub body_of_parts : List Part → Option Body
body_of_parts parts = body_with (stack_limits parts) (locals_limits parts) (catch_rows parts) (code_lines parts)

-- a body whose labels agree
abbrev pub agreeing : Body → Option Body
agreeing body = if labels_agree body.rows body.lines then Some body else None

-- a body by its statements
abbrev pub body_of : List Statement → Option Body
body_of ss = option_and_then agreeing (option_and_then body_of_parts (parts_of ss))

-- an abstract or native method has no statements
abbrev pub method_without : MethodHead → List Statement → Option MethodTree
method_without head [] = Some (record {
  flags = head.flags;
  name = head.name;
  descriptor = head.descriptor;
  body = None;
})
method_without head (s ∷ ss) = None

abbrev pub method_with : MethodHead → Body → MethodTree
method_with head body = record { flags = head.flags; name = head.name; descriptor = head.descriptor; body = Some body }

-- a method by its head and the statements up to its `.end method`
abbrev pub method_under : Option MethodHead → List Statement → Option MethodTree
method_under None ss = None
method_under (Some head) ss = if has head.flags.0 0x0500 then method_without head ss
    else option_map (method_with head) (body_of ss)

abbrev pub method_tree : ClassFlags → List Statement → Option MethodTree
method_tree class [] = None
method_tree class (s ∷ ss) = method_under (method_of class s) ss
