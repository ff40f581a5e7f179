-- The text of a listing is the lines of its statements.
use Rattle.std.proofs.Common.{◌≡◌, ℕ, ℤ, Bool, true, false, List, [], ◌∷◌, ◌++◌, map, Option, Some, None, refl, sym, ap}
use Rattle.std.proofs.Common.{◌∙◌, append_assoc, append-nil}
use Rattle.std.specs.Prelude.{codes, decimal, if◌then◌else◌}
use Rattle.std.specs.Fmt.{signed_decimal}
use Rattle.std.specs.List.{flat_map}
use Rattle.std.proofs.lemmas.Grind.{flat_map-append}
use Rattle.model.specs.declared.instructions.ArrayOperation.{ArrayOperation}
use Rattle.model.specs.declared.instructions.ArrayOperation.TheVariants as array
use Rattle.model.specs.declared.instructions.Constant.{Constant}
use Rattle.model.specs.declared.instructions.Constant.TheVariants as constant
use Rattle.model.specs.declared.instructions.Increment.{Increment}
use Rattle.model.specs.declared.instructions.Increment.TheVariants as increment
use Rattle.model.specs.declared.instructions.Instruction.TheVariants.{Nop, Constant as ConstantOf, Local as LocalOf}
use Rattle.model.specs.declared.instructions.Instruction.TheVariants.{Stack, Number, Branch, TableSwitch, LookupSwitch}
use Rattle.model.specs.declared.instructions.Instruction.TheVariants.{Return, Static, Field, Array, Class, Invoke}
use Rattle.model.specs.declared.instructions.Instruction.TheVariants.{Throw, Monitor}
use Rattle.model.specs.declared.instructions.Invocation.{Invocation}
use Rattle.model.specs.declared.instructions.Invocation.TheVariants as invocation
use Rattle.model.specs.declared.instructions.Local.{Local}
use Rattle.model.specs.declared.instructions.Local.TheVariants as «local»
use Rattle.model.specs.declared.instructions.LocalAccess.{LocalAccess}
use Rattle.model.specs.declared.instructions.LocalAccess.TheVariants as access
use Rattle.model.specs.declared.instructions.Width.TheVariants.{Narrow, Wide}
use Rattle.model.specs.declared.listings.Constant.{Constant as FieldValue}
use Rattle.model.specs.declared.listings.Field.{Field as FieldOf}
use Rattle.model.specs.declared.listings.Method.{Method}
use Rattle.model.specs.declared.listings.Placed.{Placed}
use Rattle.model.specs.declared.names.Member.{Member}
use Rattle.model.specs.ClassListings.{ClassListing}
use Rattle.model.specs.CodeListings.{CodeListing}
use Rattle.model.specs.Switches.{Table, Lookup}
use Rattle.model.specs.Texts.Disassembling as text
use Rattle.model.specs.Texts.Disassembling.{Listed, newline, label}
use Rattle.model.specs.Texts.Flags.{has, class_flags, interface_flags, field_flags, method_flags}
use Rattle.disasm.specs.Statements as said
use Rattle.disasm.proofs.PlainWords.{line, following}

-- the lines of statements
abbrev pub spoken : List (List (List ℕ)) → List ℕ
spoken ss = flat_map line ss

-- ---- joining lines

one_line : (bs : List ℕ) (s : List (List ℕ)) → bs ≡ line s → bs ≡ spoken (s ∷ [])
one_line bs s e = e ∙ sym (append-nil (line s))

line_first : (bs cs : List ℕ) (s : List (List ℕ)) (ss : List (List (List ℕ))) → bs ≡ line s → cs ≡ spoken ss
    → bs ++ cs ≡ spoken (s ∷ ss)
line_first bs cs s ss d e = ap (λ (xs : List ℕ). xs ++ cs) d ∙ ap (λ (xs : List ℕ). line s ++ xs) e

both_parts : (bs cs : List ℕ) (rs ss : List (List (List ℕ))) → bs ≡ spoken rs → cs ≡ spoken ss
    → bs ++ cs ≡ spoken (rs ++ ss)
both_parts bs cs rs ss d e = ap (λ (xs : List ℕ). xs ++ cs) d ∙ ap (λ (xs : List ℕ). spoken rs ++ xs) e
    ∙ sym (flat_map-append line rs ss)

each_line : {A : Type 0} (f : A → List ℕ) (g : A → List (List ℕ)) → ((x : A) → f x ≡ line (g x)) → (xs : List A)
    → flat_map f xs ≡ spoken (map g xs)
each_line f g same [] = refl
each_line f g same (x ∷ xs) = line_first (f x) (flat_map f xs) (g x) (map g xs) (same x) (each_line f g same xs)

each_part : {A : Type 0} (f : A → List ℕ) (g : A → List (List (List ℕ))) → ((x : A) → f x ≡ spoken (g x))
    → (xs : List A) → flat_map f xs ≡ spoken (flat_map g xs)
each_part f g same [] = refl
each_part f g same (x ∷ xs) = both_parts (f x) (flat_map f xs) (g x) (flat_map g xs) (same x) (each_part f g same xs)

-- ---- instructions

constant_line : (c : Constant ℤ ℤ) → text.constant_text c ++ newline ≡ line (said.constant_words c)
constant_line constant.Null = refl
constant_line (constant.SmallInt n) = refl
constant_line (constant.SmallLong n) = refl
constant_line (constant.Byte z) = refl
constant_line (constant.Short z) = refl
constant_line (constant.Int Narrow z) = refl
constant_line (constant.Int Wide z) = refl
constant_line (constant.Long z) = refl

with_local_line : (name : List ℕ) (l : Local) → text.with_local name l ++ newline ≡ line (said.with_local_words name l)
with_local_line name («local».First n) = refl
with_local_line name («local».Byte n) = append_assoc name (codes " " ++ decimal n) newline
with_local_line name («local».Wide n) = ap (λ (bs : List ℕ). codes "wide " ++ bs)
    (append_assoc name (codes " " ++ decimal n) newline)

increment_line : (i : Increment) → text.increment_text i ++ newline ≡ line (said.increment_words i)
increment_line (increment.Byte n z) = ap (λ (bs : List ℕ). codes "iinc " ++ bs)
    (append_assoc (decimal n) (codes " " ++ signed_decimal z) newline)
increment_line (increment.Wide n z) = ap (λ (bs : List ℕ). codes "wide iinc " ++ bs)
    (append_assoc (decimal n) (codes " " ++ signed_decimal z) newline)

local_line : (a : LocalAccess) → text.local_text a ++ newline ≡ line (said.local_words a)
local_line (access.Load k l) = with_local_line (text.kind_letter k ++ codes "load") l
local_line (access.Store k l) = with_local_line (text.kind_letter k ++ codes "store") l
local_line (access.Increment i) = increment_line i

default_line : (pc : ℕ) → text.default_text pc ++ newline ≡ line (said.default_words pc)
unfolding text.default_text
default_line pc = refl

table_line : (low : ℤ) → text.table_head low ≡ line (said.table_words low)
unfolding text.table_head
table_line low = refl

lookup_line : text.lookup_head ≡ line said.lookup_words
unfolding text.lookup_head
lookup_line = refl

-- a switch by its head, its lines and its default
switch_lines : (head lines last : List ℕ) (h : List (List ℕ)) (ss : List (List (List ℕ))) (d : List (List ℕ))
    → head ≡ line h → lines ≡ spoken ss → last ++ newline ≡ line d
    → (head ++ (lines ++ last)) ++ newline ≡ spoken (h ∷ ss ++ d ∷ [])
switch_lines head lines last h ss d first middle end =
    append_assoc head (lines ++ last) newline
    ∙ line_first head ((lines ++ last) ++ newline) h (ss ++ d ∷ []) first (append_assoc lines last newline
    ∙ both_parts lines (last ++ newline) ss (d ∷ []) middle (one_line (last ++ newline) d end))

table_lines : (t : Table ℕ) → text.table_text t ++ newline ≡ spoken (said.table_statements t)
table_lines t =
    switch_lines (text.table_head t.low) (flat_map text.target_line t.targets) (text.default_text t.default)
    (said.table_words t.low) (map said.target_words t.targets) (said.default_words t.default)
    (table_line t.low) (each_line text.target_line said.target_words (λ pc. refl) t.targets) (default_line t.default)

lookup_lines : (l : Lookup ℕ) → text.lookup_text l ++ newline ≡ spoken (said.lookup_statements l)
lookup_lines l =
    switch_lines text.lookup_head (flat_map text.pair_line l.pairs) (text.default_text l.default) said.lookup_words
    (map said.pair_words l.pairs) (said.default_words l.default)
    lookup_line (each_line text.pair_line said.pair_words (λ p. refl) l.pairs) (default_line l.default)

return_line : (k : List ℕ) → k ++ newline ≡ line (k ∷ [])
return_line k = refl

-- a field in two words after a mnemonic of two parts
field_operand_line : (name kind : List ℕ) (m : Member) → (name ++ (kind ++ (codes " " ++ text.field_words m)))
    ++ newline ≡ line ((name ++ kind) ∷ said.field_path m ∷ m.descriptor ∷ [])
field_operand_line name kind m = simp append_assoc

array_line : (a : ArrayOperation (List ℕ)) → text.array_text a ++ newline ≡ line (said.array_words a)
array_line (array.New p) = refl
array_line (array.NewOf c) = refl
array_line array.Length = refl
array_line (array.Load k) = refl
array_line (array.Store k) = refl

count_line : (i : Invocation) → text.count_text i ++ newline ≡ following (said.count_words i)
count_line invocation.Virtual = refl
count_line invocation.Special = refl
count_line invocation.Static = refl
count_line (invocation.Interface n) = refl

two_words_line : (name word : List ℕ) → (name ++ (codes " " ++ word)) ++ newline ≡ line (name ∷ word ∷ [])
two_words_line name word = append_assoc name (codes " " ++ word) newline

call_line : (i : Invocation) (m : Member) → text.call_text i m ++ newline ≡ line (said.call_words i m)
call_line i m =
    append_assoc (text.invocation_name i) (codes " " ++ (text.method_word m ++ text.count_text i)) newline
    ∙ ap (λ (bs : List ℕ). text.invocation_name i ++ (codes " " ++ bs))
    (append_assoc (text.method_word m) (text.count_text i) newline ∙ ap (λ (bs : List ℕ). text.method_word m ++ bs)
    (count_line i))

instruction_lines : (i : Listed) → text.instruction_text i ++ newline ≡ spoken (said.instruction_statements i)
instruction_lines Nop = refl
instruction_lines (ConstantOf c) = one_line (text.constant_text c ++ newline) (said.constant_words c) (constant_line c)
instruction_lines (LocalOf a) = one_line (text.local_text a ++ newline) (said.local_words a) (local_line a)
instruction_lines (Stack o) = one_line (text.stack_name o ++ newline) (text.stack_name o ∷ []) refl
instruction_lines (Number o) = one_line (text.number_name o ++ newline) (text.number_name o ∷ []) refl
instruction_lines (Branch t pc) = one_line ((text.test_name t ++ (codes " " ++ label pc)) ++ newline) (text.test_name t
    ∷ label pc ∷ []) (two_words_line (text.test_name t) (label pc))
instruction_lines (TableSwitch t) = table_lines t
instruction_lines (LookupSwitch l) = lookup_lines l
instruction_lines (Return k) = one_line (text.return_text k ++ newline) (text.return_text k ∷ []) refl
instruction_lines (Static a m) = one_line ((text.access_name a ++ (codes "static " ++ text.field_words m)) ++ newline)
    (said.static_words (text.access_name a) m) (field_operand_line (text.access_name a) (codes "static") m)
instruction_lines (Field a m) = one_line ((text.access_name a ++ (codes "field " ++ text.field_words m)) ++ newline)
    (said.object_words (text.access_name a) m) (field_operand_line (text.access_name a) (codes "field") m)
instruction_lines (Array a) = one_line (text.array_text a ++ newline) (said.array_words a) (array_line a)
instruction_lines (Class o c) = one_line ((text.class_name o ++ (codes " " ++ c)) ++ newline) (text.class_name o ∷ c
    ∷ []) (two_words_line (text.class_name o) c)
instruction_lines (Invoke i m) = one_line (text.call_text i m ++ newline) (said.call_words i m) (call_line i m)
instruction_lines Throw = refl
instruction_lines (Monitor o) = one_line (text.monitor_name o ++ newline) (text.monitor_name o ∷ []) refl

-- ---- code

label_lines : (named : Bool) (pc : ℕ) → text.label_line named pc ≡ spoken (said.label_statements named pc)
label_lines false pc = refl
label_lines true pc = one_line (label pc ++ codes ":\n") ((label pc ++ codes ":") ∷ [])
    (sym (append_assoc (label pc) (codes ":") newline))

placed_lines : (pcs : List ℕ) (p : Placed) → text.placed_text pcs p ≡ spoken (said.placed_statements pcs p)
placed_lines pcs p =
    both_parts (text.label_line (text.is_named pcs p.pc) p.pc) (text.instruction_text p.instruction ++ newline)
    (said.label_statements (text.is_named pcs p.pc) p.pc) (said.instruction_statements p.instruction)
    (label_lines (text.is_named pcs p.pc) p.pc) (instruction_lines p.instruction)

lines_from_are : (pcs : List ℕ) (end : ℕ) (ps : List Placed) → text.lines_from pcs end ps
    ≡ spoken (said.statements_from pcs end ps)
lines_from_are pcs end [] = label_lines (text.is_named pcs end) end
lines_from_are pcs end (p ∷ ps) =
    both_parts (text.placed_text pcs p) (text.lines_from pcs p.next ps) (said.placed_statements pcs p)
    (said.statements_from pcs p.next ps) (placed_lines pcs p) (lines_from_are pcs p.next ps)

stack_line_is : (n : ℕ) → text.stack_line n ≡ line (said.stack_words n)
unfolding text.stack_line
stack_line_is n = refl

locals_line_is : (n : ℕ) → text.locals_line n ≡ line (said.locals_words n)
unfolding text.locals_line
locals_line_is n = refl

code_lines : (c : CodeListing) → text.code_text c ≡ spoken (said.code_statements c)
code_lines c =
    let pcs = text.named_pcs c in
    let instructions = text.lines_from pcs 0 c.instructions in
    let rest = said.statements_from pcs 0 c.instructions in
    append_assoc (text.stack_line c.max_stack) (text.locals_line c.max_locals) (flat_map text.row_text c.rows ++
    instructions)
    ∙ line_first (text.stack_line c.max_stack) (text.locals_line c.max_locals ++ (flat_map text.row_text c.rows ++
    instructions)) (said.stack_words c.max_stack)
    (said.locals_words c.max_locals ∷ map said.row_words c.rows ++ rest) (stack_line_is c.max_stack)
    (line_first (text.locals_line c.max_locals) (flat_map text.row_text c.rows ++ instructions)
    (said.locals_words c.max_locals) (map said.row_words c.rows ++ rest) (locals_line_is c.max_locals)
    (both_parts (flat_map text.row_text c.rows)
    instructions (map said.row_words c.rows) rest (each_line text.row_text said.row_words (λ r. refl) c.rows)
    (lines_from_are pcs 0 c.instructions)))

-- ---- a class

-- a flag's word before others
flag_first : (set : Bool) (word bs : List ℕ) (ws : List (List ℕ)) → following ws ≡ 32 ∷ bs
    → following ((if set then word ∷ [] else []) ++ ws) ≡ 32 ∷ (if set then word ++ codes " " else []) ++ bs
flag_first true word bs ws e = ap (λ (xs : List ℕ). 32 ∷ xs) (ap (λ (xs : List ℕ). word ++ xs) e
    ∙ sym (append_assoc word (codes " ") bs))
flag_first false word bs ws e = e

flags_line : (flags : ℕ) (table : List (List ℕ × ℕ)) (w : List ℕ) (ws : List (List ℕ))
    → following (said.flags_words table flags ++ w ∷ ws) ≡ 32 ∷ text.flags_text table flags ++ (w ++ following ws)
flags_line flags [] w ws = refl
flags_line flags (row ∷ rows) w ws =
    ap following (append_assoc (said.flag_words flags row) (said.flags_words rows flags) (w ∷ ws))
    ∙ flag_first (has flags row.1) row.0 (text.flags_text rows flags ++ (w ++ following ws))
    (said.flags_words rows flags ++ w ∷ ws) (flags_line flags rows w ws)
    ∙ ap (λ (bs : List ℕ). 32 ∷ bs)
    (sym (append_assoc (text.flag_word flags row) (text.flags_text rows flags) (w ++ following ws)))

class_line_is : (interface : Bool) (flags : ℕ) (name : List ℕ) → text.class_line interface flags name
    ≡ line (said.class_words interface flags name)
class_line_is false flags name = ap (λ (bs : List ℕ). codes ".class" ++ bs) (sym (flags_line flags class_flags name []))
class_line_is true flags name = ap (λ (bs : List ℕ). codes ".interface" ++ bs)
    (sym (flags_line flags interface_flags name []))

interface_line_is : (name : List ℕ) → text.interface_line name ≡ line (said.interface_words name)
unfolding text.interface_line
interface_line_is name = refl

value_line : (v : Option FieldValue) → text.value_text v ++ newline ≡ following (said.value_words v)
value_line None = refl
value_line (Some v) = refl

field_line_is : (f : FieldOf) → text.field_line f ≡ line (said.field_words f)
field_line_is f =
    ap (λ (bs : List ℕ). codes ".field " ++ (text.flags_text field_flags f.flags.0
    ++ (f.name ++ (codes " " ++ (f.descriptor ++ bs))))) (value_line f.constant)
    ∙ ap (λ (bs : List ℕ). codes ".field" ++ bs)
    (sym (flags_line f.flags.0 field_flags f.name (f.descriptor ∷ said.value_words f.constant)))

method_line_is : (m : Method) → text.method_line m ≡ line (said.method_words m)
unfolding text.method_line text.method_flag_words
method_line_is m =
    ap (λ (bs : List ℕ). codes ".method " ++ (text.flags_text method_flags m.flags.0 ++ bs))
    (sym (append_assoc m.name m.descriptor newline))
    ∙ ap (λ (bs : List ℕ). codes ".method" ++ bs) (sym (flags_line m.flags.0 method_flags (m.name ++ m.descriptor) []))

body_lines : (c : Option CodeListing) → text.body_text c ≡ spoken (said.body_statements c)
body_lines None = refl
body_lines (Some c) = code_lines c

end_line_is : text.end_line ≡ line said.end_words
unfolding text.end_line
end_line_is = refl

method_lines : (m : Method) → text.method_text m ≡ spoken (said.method_statements m)
method_lines m =
    line_first (text.method_line m) (text.body_text m.code ++ text.end_line) (said.method_words m)
    (said.body_statements m.code ++ said.end_words ∷ []) (method_line_is m)
    (both_parts (text.body_text m.code) text.end_line (said.body_statements m.code) (said.end_words ∷ [])
    (body_lines m.code) (one_line text.end_line said.end_words end_line_is))

-- the text of a listing, by its statements
pub text_is : (l : ClassListing) → text.text_of l ≡ spoken (said.class_statements l)
unfolding text.text_of
text_is l =
    let kind = has l.flags.0 0x0200 in
    let fields = flat_map text.field_line l.fields in
    let methods = flat_map text.method_text l.methods in
    let interfaces = flat_map text.interface_line l.interfaces in
    let members = both_parts fields methods (map said.field_words l.fields) (flat_map said.method_statements l.methods)
    (each_line text.field_line said.field_words field_line_is l.fields)
    (each_part text.method_text said.method_statements method_lines l.methods) in
    let after_super = both_parts interfaces (fields ++ methods) (map said.interface_words l.interfaces)
    (map said.field_words l.fields ++ flat_map said.method_statements l.methods)
    (each_line text.interface_line said.interface_words interface_line_is l.interfaces) members in
    let rest = map said.interface_words l.interfaces
    ++ (map said.field_words l.fields ++ flat_map said.method_statements l.methods) in
    line_first (text.class_line kind l.flags.0 l.name) (text.super_line l.superclass
    ++ (interfaces ++ (fields ++ methods))) (said.class_words kind l.flags.0 l.name) (said.super_words l.superclass
    ∷ rest) (class_line_is kind l.flags.0 l.name)
    (line_first (text.super_line l.superclass) (interfaces ++ (fields ++ methods)) (said.super_words l.superclass) rest
    refl after_super)
