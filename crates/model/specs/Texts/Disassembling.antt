-- The text of a listing: the statements in the order of the grammar, words separated by one space.
use Rattle.std.specs.Prelude.{ℕ, ℤ, Bool, true, false, ◌==◌, List, [], ◌∷◌, ◌++◌, map, codes, decimal, Option, Some}
use Rattle.std.specs.Prelude.{None, if◌then◌else◌}
use Rattle.std.specs.Fmt.{signed_decimal}
use Rattle.std.specs.List.{flat_map, list_any}
use Rattle.model.specs.declared.instructions.Access.{Access}
use Rattle.model.specs.declared.instructions.Access.TheVariants as field_access
use Rattle.model.specs.declared.instructions.ArrayOperation.{ArrayOperation}
use Rattle.model.specs.declared.instructions.ArrayOperation.TheVariants as array
use Rattle.model.specs.declared.instructions.ClassOperation.{ClassOperation}
use Rattle.model.specs.declared.instructions.ClassOperation.TheVariants as class
use Rattle.model.specs.declared.instructions.Comparison.{Comparison}
use Rattle.model.specs.declared.instructions.Comparison.TheVariants as comparison
use Rattle.model.specs.declared.instructions.Constant.{Constant}
use Rattle.model.specs.declared.instructions.Constant.TheVariants as constant
use Rattle.model.specs.declared.instructions.Conversion.{Conversion}
use Rattle.model.specs.declared.instructions.Conversion.TheVariants as conversion
use Rattle.model.specs.declared.instructions.ElementKind.{ElementKind}
use Rattle.model.specs.declared.instructions.ElementKind.TheVariants as element
use Rattle.model.specs.declared.instructions.FirstLocal.{FirstLocal}
use Rattle.model.specs.declared.instructions.FirstLocal.TheVariants as first
use Rattle.model.specs.declared.instructions.Identity.{Identity}
use Rattle.model.specs.declared.instructions.Identity.TheVariants as identity
use Rattle.model.specs.declared.instructions.Increment.{Increment}
use Rattle.model.specs.declared.instructions.Increment.TheVariants as increment
use Rattle.model.specs.declared.instructions.Instruction.{Instruction}
use Rattle.model.specs.declared.instructions.Instruction.TheVariants.{Nop, Constant as ConstantOf, Local as LocalOf}
use Rattle.model.specs.declared.instructions.Instruction.TheVariants.{Stack, Number, Branch, TableSwitch, LookupSwitch}
use Rattle.model.specs.declared.instructions.Instruction.TheVariants.{Return, Static, Field, Array, Class, Invoke}
use Rattle.model.specs.declared.instructions.Instruction.TheVariants.{Throw, Monitor}
use Rattle.model.specs.declared.instructions.Invocation.{Invocation}
use Rattle.model.specs.declared.instructions.Invocation.TheVariants as invocation
use Rattle.model.specs.declared.instructions.Local.{Local}
use Rattle.model.specs.declared.instructions.Local.TheVariants as «local»
use Rattle.model.specs.declared.instructions.LocalAccess.{LocalAccess}
use Rattle.model.specs.declared.instructions.LocalAccess.TheVariants as access
use Rattle.model.specs.declared.instructions.MonitorOperation.{MonitorOperation}
use Rattle.model.specs.declared.instructions.MonitorOperation.TheVariants as monitor
use Rattle.model.specs.declared.instructions.NumberKind.{NumberKind}
use Rattle.model.specs.declared.instructions.NumberKind.TheVariants as number_kind
use Rattle.model.specs.declared.instructions.NumberOperation.{NumberOperation}
use Rattle.model.specs.declared.instructions.NumberOperation.TheVariants as number
use Rattle.model.specs.declared.instructions.Operator.{Operator}
use Rattle.model.specs.declared.instructions.Operator.TheVariants as operator
use Rattle.model.specs.declared.instructions.Primitive.{Primitive}
use Rattle.model.specs.declared.instructions.Primitive.TheVariants as primitive
use Rattle.model.specs.declared.instructions.SmallInt.{SmallInt}
use Rattle.model.specs.declared.instructions.SmallInt.TheVariants as small_int
use Rattle.model.specs.declared.instructions.SmallLong.{SmallLong}
use Rattle.model.specs.declared.instructions.SmallLong.TheVariants as small_long
use Rattle.model.specs.declared.instructions.StackOperation.{StackOperation}
use Rattle.model.specs.declared.instructions.StackOperation.TheVariants as stack
use Rattle.model.specs.declared.instructions.Test.{Test}
use Rattle.model.specs.declared.instructions.Test.TheVariants as test
use Rattle.model.specs.declared.instructions.Width.TheVariants.{Narrow, Wide}
use Rattle.model.specs.declared.listings.Constant.{Constant as FieldValue}
use Rattle.model.specs.declared.listings.Constant.TheVariants as value
use Rattle.model.specs.declared.listings.ExceptionRow.{ExceptionRow}
use Rattle.model.specs.declared.listings.Field.{Field as FieldOf}
use Rattle.model.specs.declared.listings.Method.{Method}
use Rattle.model.specs.declared.listings.Placed.{Placed}
use Rattle.model.specs.declared.names.Member.{Member}
use Rattle.model.specs.declared.values.Kind.{Kind}
use Rattle.model.specs.declared.values.Kind.TheVariants as kind
use Rattle.model.specs.ClassListings.{ClassListing}
use Rattle.model.specs.CodeListings.{CodeListing}
use Rattle.model.specs.Switches.{Table, Lookup}
use Rattle.model.specs.Texts.Flags.{has, class_flags, interface_flags, field_flags, method_flags}

-- ---- words

-- the ints of iconst_m1 to iconst_5
abbrev pub small_int_name : SmallInt → List ℕ
small_int_name small_int.MinusOne = codes "iconst_m1"
small_int_name small_int.Zero = codes "iconst_0"
small_int_name small_int.One = codes "iconst_1"
small_int_name small_int.Two = codes "iconst_2"
small_int_name small_int.Three = codes "iconst_3"
small_int_name small_int.Four = codes "iconst_4"
small_int_name small_int.Five = codes "iconst_5"

abbrev pub small_long_name : SmallLong → List ℕ
small_long_name small_long.Zero = codes "lconst_0"
small_long_name small_long.One = codes "lconst_1"

-- the locals that an opcode can name by itself
abbrev pub first_name : FirstLocal → List ℕ
first_name first.Zero = codes "_0"
first_name first.One = codes "_1"
first_name first.Two = codes "_2"
first_name first.Three = codes "_3"

-- the letters that a mnemonic begins with, for what it loads, stores or returns
abbrev pub kind_letter : Kind → List ℕ
kind_letter kind.Int = codes "i"
kind_letter kind.Long = codes "l"
kind_letter kind.Ref = codes "a"

abbrev pub element_letter : ElementKind → List ℕ
element_letter element.Int = codes "i"
element_letter element.Long = codes "l"
element_letter element.Ref = codes "a"
element_letter element.Byte = codes "b"
element_letter element.Char = codes "c"
element_letter element.Short = codes "s"

abbrev pub number_letter : NumberKind → List ℕ
number_letter number_kind.Int = codes "i"
number_letter number_kind.Long = codes "l"

abbrev pub stack_name : StackOperation → List ℕ
stack_name stack.Pop = codes "pop"
stack_name stack.Pop2 = codes "pop2"
stack_name stack.Dup = codes "dup"
stack_name stack.DupX1 = codes "dup_x1"
stack_name stack.DupX2 = codes "dup_x2"
stack_name stack.Dup2 = codes "dup2"
stack_name stack.Dup2X1 = codes "dup2_x1"
stack_name stack.Dup2X2 = codes "dup2_x2"
stack_name stack.Swap = codes "swap"

abbrev pub operator_name : Operator → List ℕ
operator_name operator.Add = codes "add"
operator_name operator.Sub = codes "sub"
operator_name operator.Mul = codes "mul"
operator_name operator.Div = codes "div"
operator_name operator.Rem = codes "rem"
operator_name operator.Shl = codes "shl"
operator_name operator.Shr = codes "shr"
operator_name operator.Ushr = codes "ushr"
operator_name operator.And = codes "and"
operator_name operator.Or = codes "or"
operator_name operator.Xor = codes "xor"

abbrev pub conversion_name : Conversion → List ℕ
conversion_name conversion.IntToLong = codes "i2l"
conversion_name conversion.LongToInt = codes "l2i"
conversion_name conversion.IntToByte = codes "i2b"
conversion_name conversion.IntToChar = codes "i2c"
conversion_name conversion.IntToShort = codes "i2s"

abbrev pub number_name : NumberOperation → List ℕ
number_name (number.Binary k o) = number_letter k ++ operator_name o
number_name (number.Negate k) = number_letter k ++ codes "neg"
number_name (number.Convert c) = conversion_name c
number_name number.CompareLongs = codes "lcmp"

abbrev pub comparison_name : Comparison → List ℕ
comparison_name comparison.Equal = codes "eq"
comparison_name comparison.NotEqual = codes "ne"
comparison_name comparison.Less = codes "lt"
comparison_name comparison.GreaterOrEqual = codes "ge"
comparison_name comparison.Greater = codes "gt"
comparison_name comparison.LessOrEqual = codes "le"

abbrev pub references_name : Identity → List ℕ
references_name identity.Same = codes "if_acmpeq"
references_name identity.Different = codes "if_acmpne"

abbrev pub null_name : Identity → List ℕ
null_name identity.Same = codes "ifnull"
null_name identity.Different = codes "ifnonnull"

abbrev pub test_name : Test → List ℕ
test_name (test.Always Narrow) = codes "goto"
test_name (test.Always Wide) = codes "goto_w"
test_name (test.Zero c) = codes "if" ++ comparison_name c
test_name (test.Ints c) = codes "if_icmp" ++ comparison_name c
test_name (test.Refs i) = references_name i
test_name (test.Null i) = null_name i

abbrev pub access_name : Access → List ℕ
access_name field_access.Get = codes "get"
access_name field_access.Put = codes "put"

abbrev pub class_name : ClassOperation → List ℕ
class_name class.New = codes "new"
class_name class.CheckCast = codes "checkcast"
class_name class.InstanceOf = codes "instanceof"

abbrev pub monitor_name : MonitorOperation → List ℕ
monitor_name monitor.Enter = codes "monitorenter"
monitor_name monitor.Exit = codes "monitorexit"

abbrev pub invocation_name : Invocation → List ℕ
invocation_name invocation.Virtual = codes "invokevirtual"
invocation_name invocation.Special = codes "invokespecial"
invocation_name invocation.Static = codes "invokestatic"
invocation_name (invocation.Interface n) = codes "invokeinterface"

abbrev pub primitive_name : Primitive → List ℕ
primitive_name primitive.Char = codes "char"
primitive_name primitive.Byte = codes "byte"
primitive_name primitive.Short = codes "short"
primitive_name primitive.Int = codes "int"
primitive_name primitive.Long = codes "long"

abbrev pub newline : List ℕ
newline = codes "\n"

-- the label of a pc
abbrev pub label : ℕ → List ℕ
label pc = codes "L" ++ decimal pc

-- ---- instructions

abbrev pub constant_text : Constant ℤ ℤ → List ℕ
constant_text constant.Null = codes "aconst_null"
constant_text (constant.SmallInt n) = small_int_name n
constant_text (constant.SmallLong n) = small_long_name n
constant_text (constant.Byte z) = codes "bipush " ++ signed_decimal z
constant_text (constant.Short z) = codes "sipush " ++ signed_decimal z
constant_text (constant.Int Narrow z) = codes "ldc " ++ signed_decimal z
constant_text (constant.Int Wide z) = codes "ldc_w " ++ signed_decimal z
constant_text (constant.Long z) = codes "ldc2_w " ++ signed_decimal z

-- a mnemonic with its local: in one word, after a space, or in the wide form
abbrev pub with_local : List ℕ → Local → List ℕ
with_local name («local».First n) = name ++ first_name n
with_local name («local».Byte n) = name ++ (codes " " ++ decimal n)
with_local name («local».Wide n) = codes "wide " ++ (name ++ (codes " " ++ decimal n))

abbrev pub increment_text : Increment → List ℕ
increment_text (increment.Byte n z) = codes "iinc " ++ (decimal n ++ (codes " " ++ signed_decimal z))
increment_text (increment.Wide n z) = codes "wide iinc " ++ (decimal n ++ (codes " " ++ signed_decimal z))

abbrev pub local_text : LocalAccess → List ℕ
local_text (access.Load k l) = with_local (kind_letter k ++ codes "load") l
local_text (access.Store k l) = with_local (kind_letter k ++ codes "store") l
local_text (access.Increment i) = increment_text i

abbrev pub target_line : ℕ → List ℕ
target_line pc = label pc ++ codes "\n"

abbrev pub pair_line : ℤ × ℕ → List ℕ
pair_line p = signed_decimal p.0 ++ (codes " : " ++ target_line p.1)

-- a switch's last line
unfoldable pub default_text : ℕ → List ℕ
default_text pc = codes "default : " ++ label pc

unfoldable pub table_head : ℤ → List ℕ
table_head low = codes "tableswitch " ++ (signed_decimal low ++ newline)

abbrev pub table_text : Table ℕ → List ℕ
table_text t = table_head t.low ++ (flat_map target_line t.targets ++ default_text t.default)

unfoldable pub lookup_head : List ℕ
lookup_head = codes "lookupswitch\n"

abbrev pub lookup_text : Lookup ℕ → List ℕ
lookup_text l = lookup_head ++ (flat_map pair_line l.pairs ++ default_text l.default)

abbrev pub return_text : Option Kind → List ℕ
return_text None = codes "return"
return_text (Some k) = kind_letter k ++ codes "return"

-- a field is named by two words, a method by one
abbrev pub field_words : Member → List ℕ
field_words m = m.class ++ (codes "/" ++ (m.name ++ (codes " " ++ m.descriptor)))

abbrev pub method_word : Member → List ℕ
method_word m = m.class ++ (codes "/" ++ (m.name ++ m.descriptor))

abbrev pub array_text : ArrayOperation (List ℕ) → List ℕ
array_text (array.New p) = codes "newarray " ++ primitive_name p
array_text (array.NewOf c) = codes "anewarray " ++ c
array_text array.Length = codes "arraylength"
array_text (array.Load k) = element_letter k ++ codes "aload"
array_text (array.Store k) = element_letter k ++ codes "astore"

-- the count of units after the method of an interface
abbrev pub count_text : Invocation → List ℕ
count_text invocation.Virtual = []
count_text invocation.Special = []
count_text invocation.Static = []
count_text (invocation.Interface n) = codes " " ++ decimal n

abbrev pub call_text : Invocation → Member → List ℕ
call_text i m = invocation_name i ++ (codes " " ++ (method_word m ++ count_text i))

-- an instruction of a listing: pcs for targets, and names in place of pool numbers
abbrev pub Listed : Type 0
Listed = Instruction ℕ ℤ ℤ Member Member (List ℕ)

abbrev pub instruction_text : Listed → List ℕ
instruction_text Nop = codes "nop"
instruction_text (ConstantOf c) = constant_text c
instruction_text (LocalOf a) = local_text a
instruction_text (Stack o) = stack_name o
instruction_text (Number o) = number_name o
instruction_text (Branch t pc) = test_name t ++ (codes " " ++ label pc)
instruction_text (TableSwitch t) = table_text t
instruction_text (LookupSwitch l) = lookup_text l
instruction_text (Return k) = return_text k
instruction_text (Static a m) = access_name a ++ (codes "static " ++ field_words m)
instruction_text (Field a m) = access_name a ++ (codes "field " ++ field_words m)
instruction_text (Array a) = array_text a
instruction_text (Class o c) = class_name o ++ (codes " " ++ c)
instruction_text (Invoke i m) = call_text i m
instruction_text Throw = codes "athrow"
instruction_text (Monitor o) = monitor_name o

-- ---- code

-- the pcs that an instruction names
abbrev pub targets : Listed → List ℕ
targets Nop = []
targets (ConstantOf c) = []
targets (LocalOf a) = []
targets (Stack o) = []
targets (Number o) = []
targets (Branch t pc) = pc ∷ []
targets (TableSwitch t) = t.targets ++ t.default ∷ []
targets (LookupSwitch l) = map (λ p. p.1) l.pairs ++ l.default ∷ []
targets (Return k) = []
targets (Static a m) = []
targets (Field a m) = []
targets (Array a) = []
targets (Class o c) = []
targets (Invoke i m) = []
targets Throw = []
targets (Monitor o) = []

abbrev pub row_pcs : ExceptionRow → List ℕ
row_pcs row = row.start ∷ row.end ∷ row.handler ∷ []

abbrev pub placed_targets : Placed → List ℕ
placed_targets p = targets p.instruction

-- the pcs that a method's rows and instructions name
abbrev pub named_pcs : CodeListing → List ℕ
named_pcs c = flat_map row_pcs c.rows ++ flat_map placed_targets c.instructions

abbrev pub is_named : List ℕ → ℕ → Bool
is_named pcs pc = list_any (λ named. named == pc) pcs

-- the line of a label, where its pc is named
abbrev pub label_line : Bool → ℕ → List ℕ
label_line false pc = []
label_line true pc = label pc ++ codes ":\n"

-- an instruction after its label
abbrev pub placed_text : List ℕ → Placed → List ℕ
placed_text pcs p = label_line (is_named pcs p.pc) p.pc ++ (instruction_text p.instruction ++ newline)

-- instructions after a pc, each after its label; the last label may stand at the end
abbrev pub lines_from : List ℕ → ℕ → List Placed → List ℕ
lines_from pcs end [] = label_line (is_named pcs end) end
lines_from pcs end (p ∷ ps) = placed_text pcs p ++ lines_from pcs p.next ps

abbrev pub catch_name : Option (List ℕ) → List ℕ
catch_name None = codes "all"
catch_name (Some name) = name

abbrev pub from_text : ℕ → List ℕ
from_text pc = codes " from " ++ label pc

abbrev pub to_text : ℕ → List ℕ
to_text pc = codes " to " ++ label pc

abbrev pub using_text : ℕ → List ℕ
using_text pc = codes " using " ++ label pc

abbrev pub row_text : ExceptionRow → List ℕ
row_text r = codes ".catch "
    ++ (catch_name r.class ++ (from_text r.start ++ (to_text r.end ++ (using_text r.handler ++ newline))))

unfoldable pub stack_line : ℕ → List ℕ
stack_line n = codes ".limit stack " ++ (decimal n ++ newline)

unfoldable pub locals_line : ℕ → List ℕ
locals_line n = codes ".limit locals " ++ (decimal n ++ newline)

abbrev pub limits_text : CodeListing → List ℕ
limits_text c = stack_line c.max_stack ++ locals_line c.max_locals

abbrev pub code_text : CodeListing → List ℕ
code_text c = limits_text c ++ (flat_map row_text c.rows ++ lines_from (named_pcs c) 0 c.instructions)

-- ---- a class

-- the words of the flags that are set, in the order of the table, each with a space after it
abbrev pub flag_word : ℕ → List ℕ × ℕ → List ℕ
flag_word flags row = if has flags row.1 then row.0 ++ codes " " else []

abbrev pub flags_text : List (List ℕ × ℕ) → ℕ → List ℕ
flags_text table flags = flat_map (flag_word flags) table

abbrev pub class_line : Bool → ℕ → List ℕ → List ℕ
class_line false flags name = codes ".class " ++ (flags_text class_flags flags ++ (name ++ codes "\n"))
class_line true flags name = codes ".interface " ++ (flags_text interface_flags flags ++ (name ++ codes "\n"))

abbrev pub super_line : List ℕ → List ℕ
super_line name = codes ".super " ++ (name ++ codes "\n")

unfoldable pub interface_line : List ℕ → List ℕ
interface_line name = codes ".implements " ++ (name ++ codes "\n")

-- the value that a static field begins with
abbrev pub number_of_value : FieldValue → ℤ
number_of_value (value.Int z) = z
number_of_value (value.Long z) = z

abbrev pub value_text : Option FieldValue → List ℕ
value_text None = []
value_text (Some v) = codes " = " ++ signed_decimal (number_of_value v)

abbrev pub field_line : FieldOf → List ℕ
field_line f =
    codes ".field " ++ (flags_text field_flags f.flags.0
    ++ (f.name ++ (codes " " ++ (f.descriptor ++ (value_text f.constant ++ codes "\n")))))

abbrev pub body_text : Option CodeListing → List ℕ
body_text None = []
body_text (Some c) = code_text c

unfoldable pub method_flag_words : ℕ → List ℕ
method_flag_words flags = flags_text method_flags flags

abbrev pub method_words : Method → List ℕ
method_words m = method_flag_words m.flags.0 ++ (m.name ++ (m.descriptor ++ newline))

unfoldable pub method_line : Method → List ℕ
method_line m = codes ".method " ++ method_words m

unfoldable pub end_line : List ℕ
end_line = codes ".end method\n"

abbrev pub method_text : Method → List ℕ
method_text m = method_line m ++ (body_text m.code ++ end_line)

-- the text of a class
unfoldable pub text_of : ClassListing → List ℕ
text_of l =
    class_line (has l.flags.0 0x0200) l.flags.0 l.name ++
    (super_line l.superclass ++ (flat_map interface_line l.interfaces
    ++ (flat_map field_line l.fields ++ flat_map method_text l.methods)))
