-- The statements of a listing, in the order of the grammar: what the lines of its text say, word by word.
use Rattle.std.specs.Prelude.{ℕ, ℤ, Bool, true, false, List, [], ◌∷◌, ◌++◌, map, codes, decimal, Option, Some, None}
use Rattle.std.specs.Prelude.{if◌then◌else◌}
use Rattle.std.specs.Fmt.{signed_decimal}
use Rattle.std.specs.List.{flat_map}
use Rattle.model.specs.declared.instructions.ArrayOperation.{ArrayOperation}
use Rattle.model.specs.declared.instructions.ArrayOperation.TheVariants as array
use Rattle.model.specs.declared.instructions.Constant.{Constant}
use Rattle.model.specs.declared.instructions.Constant.TheVariants as constant
use Rattle.model.specs.declared.instructions.Increment.{Increment}
use Rattle.model.specs.declared.instructions.Increment.TheVariants as increment
use Rattle.model.specs.declared.instructions.Instruction.TheVariants.{Nop, Constant as ConstantOf, Local as LocalOf}
use Rattle.model.specs.declared.instructions.Instruction.TheVariants.{Stack, Number, Branch, TableSwitch, LookupSwitch}
use Rattle.model.specs.declared.instructions.Instruction.TheVariants.{Return, Static, Field, Array, Class, Invoke}
use Rattle.model.specs.declared.instructions.Instruction.TheVariants.{Throw, Monitor}
use Rattle.model.specs.declared.instructions.Invocation.{Invocation}
use Rattle.model.specs.declared.instructions.Invocation.TheVariants as invocation
use Rattle.model.specs.declared.instructions.Local.{Local}
use Rattle.model.specs.declared.instructions.Local.TheVariants as «local»
use Rattle.model.specs.declared.instructions.LocalAccess.{LocalAccess}
use Rattle.model.specs.declared.instructions.LocalAccess.TheVariants as access
use Rattle.model.specs.declared.instructions.Width.TheVariants.{Narrow, Wide}
use Rattle.model.specs.declared.listings.Constant.{Constant as FieldValue}
use Rattle.model.specs.declared.listings.ExceptionRow.{ExceptionRow}
use Rattle.model.specs.declared.listings.Field.{Field as FieldOf}
use Rattle.model.specs.declared.listings.Method.{Method}
use Rattle.model.specs.declared.listings.Placed.{Placed}
use Rattle.model.specs.declared.names.Member.{Member}
use Rattle.model.specs.ClassListings.{ClassListing}
use Rattle.model.specs.CodeListings.{CodeListing}
use Rattle.model.specs.Switches.{Table, Lookup}
use Rattle.model.specs.Texts.Disassembling.{Listed, small_int_name, small_long_name, first_name, kind_letter}
use Rattle.model.specs.Texts.Disassembling.{element_letter, stack_name, number_name, test_name, access_name, class_name}
use Rattle.model.specs.Texts.Disassembling.{monitor_name, invocation_name, primitive_name, label, return_text}
use Rattle.model.specs.Texts.Disassembling.{method_word, named_pcs, is_named, catch_name, number_of_value}
use Rattle.model.specs.Texts.Flags.{has, class_flags, interface_flags, field_flags, method_flags}
use Rattle.model.specs.Texts.Statements.{Statement}

-- ---- instructions

abbrev pub constant_words : Constant ℤ ℤ → List (List ℕ)
constant_words constant.Null = codes "aconst_null" ∷ []
constant_words (constant.SmallInt n) = small_int_name n ∷ []
constant_words (constant.SmallLong n) = small_long_name n ∷ []
constant_words (constant.Byte z) = codes "bipush" ∷ signed_decimal z ∷ []
constant_words (constant.Short z) = codes "sipush" ∷ signed_decimal z ∷ []
constant_words (constant.Int Narrow z) = codes "ldc" ∷ signed_decimal z ∷ []
constant_words (constant.Int Wide z) = codes "ldc_w" ∷ signed_decimal z ∷ []
constant_words (constant.Long z) = codes "ldc2_w" ∷ signed_decimal z ∷ []

-- a mnemonic with its local: in one word, in two, or in the wide form
abbrev pub with_local_words : List ℕ → Local → List (List ℕ)
with_local_words name («local».First n) = (name ++ first_name n) ∷ []
with_local_words name («local».Byte n) = name ∷ decimal n ∷ []
with_local_words name («local».Wide n) = codes "wide" ∷ name ∷ decimal n ∷ []

abbrev pub increment_words : Increment → List (List ℕ)
increment_words (increment.Byte n z) = codes "iinc" ∷ decimal n ∷ signed_decimal z ∷ []
increment_words (increment.Wide n z) = codes "wide" ∷ codes "iinc" ∷ decimal n ∷ signed_decimal z ∷ []

abbrev pub local_words : LocalAccess → List (List ℕ)
local_words (access.Load k l) = with_local_words (kind_letter k ++ codes "load") l
local_words (access.Store k l) = with_local_words (kind_letter k ++ codes "store") l
local_words (access.Increment i) = increment_words i

abbrev pub target_words : ℕ → List (List ℕ)
target_words pc = label pc ∷ []

abbrev pub pair_words : ℤ × ℕ → List (List ℕ)
pair_words p = signed_decimal p.0 ∷ codes ":" ∷ label p.1 ∷ []

abbrev pub default_words : ℕ → List (List ℕ)
default_words pc = codes "default" ∷ codes ":" ∷ label pc ∷ []

abbrev pub table_words : ℤ → List (List ℕ)
table_words low = codes "tableswitch" ∷ signed_decimal low ∷ []

abbrev pub table_statements : Table ℕ → List (List (List ℕ))
table_statements t = table_words t.low ∷ map target_words t.targets ++ default_words t.default ∷ []

abbrev pub lookup_words : List (List ℕ)
lookup_words = codes "lookupswitch" ∷ []

abbrev pub lookup_statements : Lookup ℕ → List (List (List ℕ))
lookup_statements l = lookup_words ∷ map pair_words l.pairs ++ default_words l.default ∷ []

-- a field with its class in one word
abbrev pub field_path : Member → List ℕ
field_path m = m.class ++ (codes "/" ++ m.name)

abbrev pub static_words : List ℕ → Member → List (List ℕ)
static_words name m = (name ++ codes "static") ∷ field_path m ∷ m.descriptor ∷ []

abbrev pub object_words : List ℕ → Member → List (List ℕ)
object_words name m = (name ++ codes "field") ∷ field_path m ∷ m.descriptor ∷ []

abbrev pub array_words : ArrayOperation (List ℕ) → List (List ℕ)
array_words (array.New p) = codes "newarray" ∷ primitive_name p ∷ []
array_words (array.NewOf c) = codes "anewarray" ∷ c ∷ []
array_words array.Length = codes "arraylength" ∷ []
array_words (array.Load k) = (element_letter k ++ codes "aload") ∷ []
array_words (array.Store k) = (element_letter k ++ codes "astore") ∷ []

-- the count of units after the method of an interface
abbrev pub count_words : Invocation → List (List ℕ)
count_words invocation.Virtual = []
count_words invocation.Special = []
count_words invocation.Static = []
count_words (invocation.Interface n) = decimal n ∷ []

abbrev pub call_words : Invocation → Member → List (List ℕ)
call_words i m = invocation_name i ∷ method_word m ∷ count_words i

-- an instruction is one statement; a switch has one for its head, each of its lines and its default
abbrev pub instruction_statements : Listed → List (List (List ℕ))
instruction_statements Nop = (codes "nop" ∷ []) ∷ []
instruction_statements (ConstantOf c) = constant_words c ∷ []
instruction_statements (LocalOf a) = local_words a ∷ []
instruction_statements (Stack o) = (stack_name o ∷ []) ∷ []
instruction_statements (Number o) = (number_name o ∷ []) ∷ []
instruction_statements (Branch t pc) = (test_name t ∷ label pc ∷ []) ∷ []
instruction_statements (TableSwitch t) = table_statements t
instruction_statements (LookupSwitch l) = lookup_statements l
instruction_statements (Return k) = (return_text k ∷ []) ∷ []
instruction_statements (Static a m) = static_words (access_name a) m ∷ []
instruction_statements (Field a m) = object_words (access_name a) m ∷ []
instruction_statements (Array a) = array_words a ∷ []
instruction_statements (Class o c) = (class_name o ∷ c ∷ []) ∷ []
instruction_statements (Invoke i m) = call_words i m ∷ []
instruction_statements Throw = (codes "athrow" ∷ []) ∷ []
instruction_statements (Monitor o) = (monitor_name o ∷ []) ∷ []

-- ---- code

-- the statement of a label, where its pc is named
abbrev pub label_statements : Bool → ℕ → List (List (List ℕ))
label_statements false pc = []
label_statements true pc = ((label pc ++ codes ":") ∷ []) ∷ []

-- an instruction after its label
abbrev pub placed_statements : List ℕ → Placed → List (List (List ℕ))
placed_statements pcs p = label_statements (is_named pcs p.pc) p.pc ++ instruction_statements p.instruction

-- instructions after a pc, each after its label; the last label may stand at the end
abbrev pub statements_from : List ℕ → ℕ → List Placed → List (List (List ℕ))
statements_from pcs end [] = label_statements (is_named pcs end) end
statements_from pcs end (p ∷ ps) = placed_statements pcs p ++ statements_from pcs p.next ps

abbrev pub row_words : ExceptionRow → List (List ℕ)
row_words r =
    codes ".catch" ∷ catch_name r.class ∷ codes "from" ∷ label r.start ∷ codes "to" ∷ label r.end ∷ codes "using"
    ∷ label r.handler ∷ []

abbrev pub stack_words : ℕ → List (List ℕ)
stack_words n = codes ".limit" ∷ codes "stack" ∷ decimal n ∷ []

abbrev pub locals_words : ℕ → List (List ℕ)
locals_words n = codes ".limit" ∷ codes "locals" ∷ decimal n ∷ []

abbrev pub code_statements : CodeListing → List (List (List ℕ))
code_statements c =
    stack_words c.max_stack ∷ locals_words c.max_locals ∷ map row_words c.rows
    ++ statements_from (named_pcs c) 0 c.instructions

-- ---- a class

-- the words of the flags that are set, in the order of the table
abbrev pub flag_words : ℕ → List ℕ × ℕ → List (List ℕ)
flag_words flags row = if has flags row.1 then row.0 ∷ [] else []

abbrev pub flags_words : List (List ℕ × ℕ) → ℕ → List (List ℕ)
flags_words table flags = flat_map (flag_words flags) table

abbrev pub class_words : Bool → ℕ → List ℕ → List (List ℕ)
class_words false flags name = codes ".class" ∷ flags_words class_flags flags ++ name ∷ []
class_words true flags name = codes ".interface" ∷ flags_words interface_flags flags ++ name ∷ []

abbrev pub super_words : List ℕ → List (List ℕ)
super_words name = codes ".super" ∷ name ∷ []

abbrev pub interface_words : List ℕ → List (List ℕ)
interface_words name = codes ".implements" ∷ name ∷ []

abbrev pub value_words : Option FieldValue → List (List ℕ)
value_words None = []
value_words (Some v) = codes "=" ∷ signed_decimal (number_of_value v) ∷ []

abbrev pub field_words : FieldOf → List (List ℕ)
field_words f = codes ".field" ∷ flags_words field_flags f.flags.0 ++ f.name ∷ f.descriptor ∷ value_words f.constant

abbrev pub body_statements : Option CodeListing → List (List (List ℕ))
body_statements None = []
body_statements (Some c) = code_statements c

abbrev pub method_words : Method → List (List ℕ)
method_words m = codes ".method" ∷ flags_words method_flags m.flags.0 ++ (m.name ++ m.descriptor) ∷ []

abbrev pub end_words : List (List ℕ)
end_words = codes ".end" ∷ codes "method" ∷ []

abbrev pub method_statements : Method → List (List (List ℕ))
method_statements m = method_words m ∷ body_statements m.code ++ end_words ∷ []

-- the statements of a class, each a list of words
abbrev pub class_statements : ClassListing → List (List (List ℕ))
class_statements l =
    class_words (has l.flags.0 0x0200) l.flags.0 l.name ∷
    super_words l.superclass ∷ map interface_words l.interfaces
    ++ (map field_words l.fields ++ flat_map method_statements l.methods)

-- the statements that the text of a listing spells
unfoldable pub statements_back : ClassListing → List Statement
statements_back l = map Some (class_statements l)
