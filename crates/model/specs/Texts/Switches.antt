use Rattle.std.specs.Prelude.{ℕ, ℤ, pos, negsuc, List, [], ◌∷◌, ◌++◌, Option, Some, None, codes, if◌then◌else◌}
use Rattle.std.specs.Option.{option_map, option_and_then}
use Rattle.std.specs.Str.{bytes_eq}
use Rattle.model.specs.declared.instructions.Instruction.TheVariants as instruction
use Rattle.model.specs.Texts.Instructions.{Written}
use Rattle.model.specs.Texts.Numbers.{number_in}
use Rattle.model.specs.Texts.Operands.{label_named, only_number}

-- a switch of which lines may follow: its least key and its labels so far, or its keys and labels so far
pub data Switch : Type 0 where
  table : ℤ → List (List ℕ) → Switch
  lookup : List (ℤ × List ℕ) → Switch

-- what a line of a switch says: what is to follow, or by its default the whole instruction
pub data SwitchLine : Type 0 where
  goes_on : Switch → SwitchLine
  ends : Written → SwitchLine

abbrev pub is_int : List ℕ → Option ℤ
is_int word = number_in (negsuc 2147483647) (pos 2147483647) word

-- a `tableswitch` begins with its least key, a `lookupswitch` with nothing
abbrev pub table_begins : List (List ℕ) → Option Switch
table_begins words = option_map (λ low. table low []) (only_number (negsuc 2147483647) (pos 2147483647) words)

abbrev pub lookup_begins : List (List ℕ) → Option Switch
lookup_begins [] = Some (lookup [])
lookup_begins (word ∷ words) = None

-- a switch with its default; a table has a label at least
abbrev pub with_default : Switch → List ℕ → Option Written
with_default (table low []) label = None
with_default (table low (target ∷ targets)) label = Some
    (instruction.TableSwitch (record { low = low; targets = target ∷ targets; default = label }))
with_default (lookup pairs) label = Some (instruction.LookupSwitch (record { pairs = pairs; default = label }))

-- a label of a table
abbrev pub with_target : Switch → List ℕ → Option Switch
with_target (table low targets) label = Some (table low (targets ++ label ∷ []))
with_target (lookup pairs) label = None

-- a key of a lookup and its label
abbrev pub with_pair : Switch → Option ℤ → List ℕ → Option Switch
with_pair (table low targets) key label = None
with_pair (lookup pairs) None label = None
with_pair (lookup pairs) (Some key) label = Some (lookup (pairs ++ (key, label) ∷ []))

abbrev pub line_before : Switch → List ℕ → List ℕ → Option SwitchLine
line_before switch word label =
    if bytes_eq word (codes "default") then option_map ends (with_default switch label)
    else option_map goes_on (with_pair switch (is_int word) label)

-- a line of a switch: a label of a table, or after a key or `default` and a colon a label
abbrev pub switch_line : Switch → List (List ℕ) → Option SwitchLine
switch_line switch [] = None
switch_line switch (word ∷ []) = option_map goes_on (option_and_then (with_target switch) (label_named word))
switch_line switch (word ∷ colon ∷ []) = None
switch_line switch (word ∷ colon ∷ label ∷ []) = if bytes_eq colon (codes ":")
    then option_and_then (line_before switch word) (label_named label) else None
switch_line switch (word ∷ colon ∷ label ∷ other ∷ words) = None
