-- The mnemonics that a text spells are those that are meant.
use Rattle.std.proofs.Common.{◌≡◌, ℕ, Bool, true, not, ◌||◌, List, ◌++◌, codes, bytes_eq, Option, Some, None, refl}
use Rattle.model.specs.declared.instructions.Access.{Access}
use Rattle.model.specs.declared.instructions.Access.TheVariants as field_access
use Rattle.model.specs.declared.instructions.ClassOperation.{ClassOperation}
use Rattle.model.specs.declared.instructions.ClassOperation.TheVariants as class
use Rattle.model.specs.declared.instructions.Comparison.{Comparison}
use Rattle.model.specs.declared.instructions.Comparison.TheVariants as comparison
use Rattle.model.specs.declared.instructions.Conversion.{Conversion}
use Rattle.model.specs.declared.instructions.Conversion.TheVariants as conversion
use Rattle.model.specs.declared.instructions.ElementKind.{ElementKind}
use Rattle.model.specs.declared.instructions.ElementKind.TheVariants as element
use Rattle.model.specs.declared.instructions.FirstLocal.{FirstLocal}
use Rattle.model.specs.declared.instructions.FirstLocal.TheVariants as first
use Rattle.model.specs.declared.instructions.Identity.TheVariants as identity
use Rattle.model.specs.declared.instructions.Invocation.TheVariants as invocation
use Rattle.model.specs.declared.instructions.Local.TheVariants as «local»
use Rattle.model.specs.declared.instructions.LocalAccess.TheVariants as access
use Rattle.model.specs.declared.instructions.MonitorOperation.{MonitorOperation}
use Rattle.model.specs.declared.instructions.MonitorOperation.TheVariants as monitor
use Rattle.model.specs.declared.instructions.NumberKind.{NumberKind}
use Rattle.model.specs.declared.instructions.NumberKind.TheVariants as number_kind
use Rattle.model.specs.declared.instructions.NumberOperation.{NumberOperation}
use Rattle.model.specs.declared.instructions.NumberOperation.TheVariants as number
use Rattle.model.specs.declared.instructions.Operator.{Operator}
use Rattle.model.specs.declared.instructions.Operator.TheVariants as operator
use Rattle.model.specs.declared.instructions.SmallInt.{SmallInt}
use Rattle.model.specs.declared.instructions.SmallInt.TheVariants as small_int
use Rattle.model.specs.declared.instructions.SmallLong.{SmallLong}
use Rattle.model.specs.declared.instructions.SmallLong.TheVariants as small_long
use Rattle.model.specs.declared.instructions.StackOperation.{StackOperation}
use Rattle.model.specs.declared.instructions.StackOperation.TheVariants as stack
use Rattle.model.specs.declared.instructions.Test.{Test}
use Rattle.model.specs.declared.instructions.Test.TheVariants as test
use Rattle.model.specs.declared.instructions.Width.TheVariants as width
use Rattle.model.specs.declared.mnemonics.LocalMnemonic.TheVariants as accessed
use Rattle.model.specs.declared.mnemonics.Mnemonic.{Mnemonic}
use Rattle.model.specs.declared.mnemonics.Mnemonic.TheVariants as mnemonic
use Rattle.model.specs.declared.values.Kind.{Kind}
use Rattle.model.specs.declared.values.Kind.TheVariants as kind
use Rattle.model.specs.Texts.Disassembling.{small_int_name, small_long_name, first_name, kind_letter, element_letter}
use Rattle.model.specs.Texts.Disassembling.{number_letter, operator_name, conversion_name, number_name, stack_name}
use Rattle.model.specs.Texts.Disassembling.{comparison_name, test_name, access_name, class_name, monitor_name}
use Rattle.model.specs.Texts.Disassembling.{return_text}
use Rattle.model.specs.Texts.Methods.{label_of}
use Rattle.model.specs.Texts.Mnemonics.{mnemonic_of}
use Rattle.jasmin.specs.Words.{word_of}

-- no word of a body but a mnemonic
abbrev pub is_other : List ℕ → Bool
is_other word =
    bytes_eq word (codes ".limit") || bytes_eq word (codes ".catch") || bytes_eq word (codes "tableswitch")
    || bytes_eq word (codes "lookupswitch") || bytes_eq word (codes "wide")

-- a word that begins an instruction, by its mnemonic
pub record Begins (word : List ℕ) (m : Mnemonic) : Type 0 where
  pub plain : not (is_other word) ≡ true
  pub unlabelled : label_of word ≡ None
  pub means : mnemonic_of word ≡ Some m
  pub says : word_of m ≡ word

pub nop_begins : Begins (codes "nop") mnemonic.Nop
unfolding mnemonic_of word_of
nop_begins = record { plain = refl; unlabelled = refl; means = refl; says = refl }

pub null_begins : Begins (codes "aconst_null") mnemonic.Null
unfolding mnemonic_of word_of
null_begins = record { plain = refl; unlabelled = refl; means = refl; says = refl }

pub small_int_begins : (n : SmallInt) → Begins (small_int_name n) (mnemonic.SmallInt n)
unfolding mnemonic_of word_of
small_int_begins small_int.MinusOne = record { plain = refl; unlabelled = refl; means = refl; says = refl }
small_int_begins small_int.Zero = record { plain = refl; unlabelled = refl; means = refl; says = refl }
small_int_begins small_int.One = record { plain = refl; unlabelled = refl; means = refl; says = refl }
small_int_begins small_int.Two = record { plain = refl; unlabelled = refl; means = refl; says = refl }
small_int_begins small_int.Three = record { plain = refl; unlabelled = refl; means = refl; says = refl }
small_int_begins small_int.Four = record { plain = refl; unlabelled = refl; means = refl; says = refl }
small_int_begins small_int.Five = record { plain = refl; unlabelled = refl; means = refl; says = refl }

pub small_long_begins : (n : SmallLong) → Begins (small_long_name n) (mnemonic.SmallLong n)
unfolding mnemonic_of word_of
small_long_begins small_long.Zero = record { plain = refl; unlabelled = refl; means = refl; says = refl }
small_long_begins small_long.One = record { plain = refl; unlabelled = refl; means = refl; says = refl }

pub byte_begins : Begins (codes "bipush") mnemonic.Byte
unfolding mnemonic_of word_of
byte_begins = record { plain = refl; unlabelled = refl; means = refl; says = refl }

pub short_begins : Begins (codes "sipush") mnemonic.Short
unfolding mnemonic_of word_of
short_begins = record { plain = refl; unlabelled = refl; means = refl; says = refl }

pub narrow_begins : Begins (codes "ldc") (mnemonic.Int width.Narrow)
unfolding mnemonic_of word_of
narrow_begins = record { plain = refl; unlabelled = refl; means = refl; says = refl }

pub wide_begins : Begins (codes "ldc_w") (mnemonic.Int width.Wide)
unfolding mnemonic_of word_of
wide_begins = record { plain = refl; unlabelled = refl; means = refl; says = refl }

pub long_begins : Begins (codes "ldc2_w") mnemonic.Long
unfolding mnemonic_of word_of
long_begins = record { plain = refl; unlabelled = refl; means = refl; says = refl }

pub load_begins : (k : Kind) → Begins (kind_letter k ++ codes "load") (mnemonic.Local (accessed.Load k))
unfolding mnemonic_of word_of
load_begins kind.Int = record { plain = refl; unlabelled = refl; means = refl; says = refl }
load_begins kind.Long = record { plain = refl; unlabelled = refl; means = refl; says = refl }
load_begins kind.Ref = record { plain = refl; unlabelled = refl; means = refl; says = refl }

pub first_load_begins : (k : Kind) (n : FirstLocal) → Begins ((kind_letter k ++ codes "load") ++ first_name n)
    (mnemonic.FirstLocal (access.Load k («local».First n)))
unfolding mnemonic_of word_of
first_load_begins kind.Int first.Zero = record { plain = refl; unlabelled = refl; means = refl; says = refl }
first_load_begins kind.Int first.One = record { plain = refl; unlabelled = refl; means = refl; says = refl }
first_load_begins kind.Int first.Two = record { plain = refl; unlabelled = refl; means = refl; says = refl }
first_load_begins kind.Int first.Three = record { plain = refl; unlabelled = refl; means = refl; says = refl }
first_load_begins kind.Long first.Zero = record { plain = refl; unlabelled = refl; means = refl; says = refl }
first_load_begins kind.Long first.One = record { plain = refl; unlabelled = refl; means = refl; says = refl }
first_load_begins kind.Long first.Two = record { plain = refl; unlabelled = refl; means = refl; says = refl }
first_load_begins kind.Long first.Three = record { plain = refl; unlabelled = refl; means = refl; says = refl }
first_load_begins kind.Ref first.Zero = record { plain = refl; unlabelled = refl; means = refl; says = refl }
first_load_begins kind.Ref first.One = record { plain = refl; unlabelled = refl; means = refl; says = refl }
first_load_begins kind.Ref first.Two = record { plain = refl; unlabelled = refl; means = refl; says = refl }
first_load_begins kind.Ref first.Three = record { plain = refl; unlabelled = refl; means = refl; says = refl }

pub store_begins : (k : Kind) → Begins (kind_letter k ++ codes "store") (mnemonic.Local (accessed.Store k))
unfolding mnemonic_of word_of
store_begins kind.Int = record { plain = refl; unlabelled = refl; means = refl; says = refl }
store_begins kind.Long = record { plain = refl; unlabelled = refl; means = refl; says = refl }
store_begins kind.Ref = record { plain = refl; unlabelled = refl; means = refl; says = refl }

pub first_store_begins : (k : Kind) (n : FirstLocal) → Begins ((kind_letter k ++ codes "store") ++ first_name n)
    (mnemonic.FirstLocal (access.Store k («local».First n)))
unfolding mnemonic_of word_of
first_store_begins kind.Int first.Zero = record { plain = refl; unlabelled = refl; means = refl; says = refl }
first_store_begins kind.Int first.One = record { plain = refl; unlabelled = refl; means = refl; says = refl }
first_store_begins kind.Int first.Two = record { plain = refl; unlabelled = refl; means = refl; says = refl }
first_store_begins kind.Int first.Three = record { plain = refl; unlabelled = refl; means = refl; says = refl }
first_store_begins kind.Long first.Zero = record { plain = refl; unlabelled = refl; means = refl; says = refl }
first_store_begins kind.Long first.One = record { plain = refl; unlabelled = refl; means = refl; says = refl }
first_store_begins kind.Long first.Two = record { plain = refl; unlabelled = refl; means = refl; says = refl }
first_store_begins kind.Long first.Three = record { plain = refl; unlabelled = refl; means = refl; says = refl }
first_store_begins kind.Ref first.Zero = record { plain = refl; unlabelled = refl; means = refl; says = refl }
first_store_begins kind.Ref first.One = record { plain = refl; unlabelled = refl; means = refl; says = refl }
first_store_begins kind.Ref first.Two = record { plain = refl; unlabelled = refl; means = refl; says = refl }
first_store_begins kind.Ref first.Three = record { plain = refl; unlabelled = refl; means = refl; says = refl }

pub increment_begins : Begins (codes "iinc") (mnemonic.Local accessed.Increment)
unfolding mnemonic_of word_of
increment_begins = record { plain = refl; unlabelled = refl; means = refl; says = refl }

pub stack_begins : (o : StackOperation) → Begins (stack_name o) (mnemonic.Stack o)
unfolding mnemonic_of word_of
stack_begins stack.Pop = record { plain = refl; unlabelled = refl; means = refl; says = refl }
stack_begins stack.Pop2 = record { plain = refl; unlabelled = refl; means = refl; says = refl }
stack_begins stack.Dup = record { plain = refl; unlabelled = refl; means = refl; says = refl }
stack_begins stack.DupX1 = record { plain = refl; unlabelled = refl; means = refl; says = refl }
stack_begins stack.DupX2 = record { plain = refl; unlabelled = refl; means = refl; says = refl }
stack_begins stack.Dup2 = record { plain = refl; unlabelled = refl; means = refl; says = refl }
stack_begins stack.Dup2X1 = record { plain = refl; unlabelled = refl; means = refl; says = refl }
stack_begins stack.Dup2X2 = record { plain = refl; unlabelled = refl; means = refl; says = refl }
stack_begins stack.Swap = record { plain = refl; unlabelled = refl; means = refl; says = refl }

pub binary_begins : (k : NumberKind) (o : Operator)
    → Begins (number_letter k ++ operator_name o) (mnemonic.Number (number.Binary k o))
unfolding mnemonic_of word_of
binary_begins number_kind.Int operator.Add = record { plain = refl; unlabelled = refl; means = refl; says = refl }
binary_begins number_kind.Int operator.Sub = record { plain = refl; unlabelled = refl; means = refl; says = refl }
binary_begins number_kind.Int operator.Mul = record { plain = refl; unlabelled = refl; means = refl; says = refl }
binary_begins number_kind.Int operator.Div = record { plain = refl; unlabelled = refl; means = refl; says = refl }
binary_begins number_kind.Int operator.Rem = record { plain = refl; unlabelled = refl; means = refl; says = refl }
binary_begins number_kind.Int operator.Shl = record { plain = refl; unlabelled = refl; means = refl; says = refl }
binary_begins number_kind.Int operator.Shr = record { plain = refl; unlabelled = refl; means = refl; says = refl }
binary_begins number_kind.Int operator.Ushr = record { plain = refl; unlabelled = refl; means = refl; says = refl }
binary_begins number_kind.Int operator.And = record { plain = refl; unlabelled = refl; means = refl; says = refl }
binary_begins number_kind.Int operator.Or = record { plain = refl; unlabelled = refl; means = refl; says = refl }
binary_begins number_kind.Int operator.Xor = record { plain = refl; unlabelled = refl; means = refl; says = refl }
binary_begins number_kind.Long operator.Add = record { plain = refl; unlabelled = refl; means = refl; says = refl }
binary_begins number_kind.Long operator.Sub = record { plain = refl; unlabelled = refl; means = refl; says = refl }
binary_begins number_kind.Long operator.Mul = record { plain = refl; unlabelled = refl; means = refl; says = refl }
binary_begins number_kind.Long operator.Div = record { plain = refl; unlabelled = refl; means = refl; says = refl }
binary_begins number_kind.Long operator.Rem = record { plain = refl; unlabelled = refl; means = refl; says = refl }
binary_begins number_kind.Long operator.Shl = record { plain = refl; unlabelled = refl; means = refl; says = refl }
binary_begins number_kind.Long operator.Shr = record { plain = refl; unlabelled = refl; means = refl; says = refl }
binary_begins number_kind.Long operator.Ushr = record { plain = refl; unlabelled = refl; means = refl; says = refl }
binary_begins number_kind.Long operator.And = record { plain = refl; unlabelled = refl; means = refl; says = refl }
binary_begins number_kind.Long operator.Or = record { plain = refl; unlabelled = refl; means = refl; says = refl }
binary_begins number_kind.Long operator.Xor = record { plain = refl; unlabelled = refl; means = refl; says = refl }

pub negate_begins : (k : NumberKind) → Begins (number_letter k ++ codes "neg") (mnemonic.Number (number.Negate k))
unfolding mnemonic_of word_of
negate_begins number_kind.Int = record { plain = refl; unlabelled = refl; means = refl; says = refl }
negate_begins number_kind.Long = record { plain = refl; unlabelled = refl; means = refl; says = refl }

pub convert_begins : (c : Conversion) → Begins (conversion_name c) (mnemonic.Number (number.Convert c))
unfolding mnemonic_of word_of
convert_begins conversion.IntToLong = record { plain = refl; unlabelled = refl; means = refl; says = refl }
convert_begins conversion.LongToInt = record { plain = refl; unlabelled = refl; means = refl; says = refl }
convert_begins conversion.IntToByte = record { plain = refl; unlabelled = refl; means = refl; says = refl }
convert_begins conversion.IntToChar = record { plain = refl; unlabelled = refl; means = refl; says = refl }
convert_begins conversion.IntToShort = record { plain = refl; unlabelled = refl; means = refl; says = refl }

pub compare_begins : Begins (codes "lcmp") (mnemonic.Number number.CompareLongs)
unfolding mnemonic_of word_of
compare_begins = record { plain = refl; unlabelled = refl; means = refl; says = refl }

pub number_begins : (o : NumberOperation) → Begins (number_name o) (mnemonic.Number o)
number_begins (number.Binary k o) = binary_begins k o
number_begins (number.Negate k) = negate_begins k
number_begins (number.Convert c) = convert_begins c
number_begins number.CompareLongs = compare_begins

pub zero_begins : (c : Comparison) → Begins (codes "if" ++ comparison_name c) (mnemonic.Branch (test.Zero c))
unfolding mnemonic_of word_of
zero_begins comparison.Equal = record { plain = refl; unlabelled = refl; means = refl; says = refl }
zero_begins comparison.NotEqual = record { plain = refl; unlabelled = refl; means = refl; says = refl }
zero_begins comparison.Less = record { plain = refl; unlabelled = refl; means = refl; says = refl }
zero_begins comparison.GreaterOrEqual = record { plain = refl; unlabelled = refl; means = refl; says = refl }
zero_begins comparison.Greater = record { plain = refl; unlabelled = refl; means = refl; says = refl }
zero_begins comparison.LessOrEqual = record { plain = refl; unlabelled = refl; means = refl; says = refl }

pub ints_begins : (c : Comparison) → Begins (codes "if_icmp" ++ comparison_name c) (mnemonic.Branch (test.Ints c))
unfolding mnemonic_of word_of
ints_begins comparison.Equal = record { plain = refl; unlabelled = refl; means = refl; says = refl }
ints_begins comparison.NotEqual = record { plain = refl; unlabelled = refl; means = refl; says = refl }
ints_begins comparison.Less = record { plain = refl; unlabelled = refl; means = refl; says = refl }
ints_begins comparison.GreaterOrEqual = record { plain = refl; unlabelled = refl; means = refl; says = refl }
ints_begins comparison.Greater = record { plain = refl; unlabelled = refl; means = refl; says = refl }
ints_begins comparison.LessOrEqual = record { plain = refl; unlabelled = refl; means = refl; says = refl }

pub test_begins : (t : Test) → Begins (test_name t) (mnemonic.Branch t)
unfolding mnemonic_of word_of
test_begins (test.Always width.Narrow) = record { plain = refl; unlabelled = refl; means = refl; says = refl }
test_begins (test.Always width.Wide) = record { plain = refl; unlabelled = refl; means = refl; says = refl }
test_begins (test.Zero c) = zero_begins c
test_begins (test.Ints c) = ints_begins c
test_begins (test.Refs identity.Same) = record { plain = refl; unlabelled = refl; means = refl; says = refl }
test_begins (test.Refs identity.Different) = record { plain = refl; unlabelled = refl; means = refl; says = refl }
test_begins (test.Null identity.Same) = record { plain = refl; unlabelled = refl; means = refl; says = refl }
test_begins (test.Null identity.Different) = record { plain = refl; unlabelled = refl; means = refl; says = refl }

pub return_begins : (k : Option Kind) → Begins (return_text k) (mnemonic.Return k)
unfolding mnemonic_of word_of
return_begins None = record { plain = refl; unlabelled = refl; means = refl; says = refl }
return_begins (Some kind.Int) = record { plain = refl; unlabelled = refl; means = refl; says = refl }
return_begins (Some kind.Long) = record { plain = refl; unlabelled = refl; means = refl; says = refl }
return_begins (Some kind.Ref) = record { plain = refl; unlabelled = refl; means = refl; says = refl }

pub static_begins : (a : Access) → Begins (access_name a ++ codes "static") (mnemonic.Static a)
unfolding mnemonic_of word_of
static_begins field_access.Get = record { plain = refl; unlabelled = refl; means = refl; says = refl }
static_begins field_access.Put = record { plain = refl; unlabelled = refl; means = refl; says = refl }

pub field_begins : (a : Access) → Begins (access_name a ++ codes "field") (mnemonic.Field a)
unfolding mnemonic_of word_of
field_begins field_access.Get = record { plain = refl; unlabelled = refl; means = refl; says = refl }
field_begins field_access.Put = record { plain = refl; unlabelled = refl; means = refl; says = refl }

pub new_array_begins : Begins (codes "newarray") mnemonic.NewArray
unfolding mnemonic_of word_of
new_array_begins = record { plain = refl; unlabelled = refl; means = refl; says = refl }

pub new_array_of_begins : Begins (codes "anewarray") mnemonic.NewArrayOf
unfolding mnemonic_of word_of
new_array_of_begins = record { plain = refl; unlabelled = refl; means = refl; says = refl }

pub array_length_begins : Begins (codes "arraylength") mnemonic.ArrayLength
unfolding mnemonic_of word_of
array_length_begins = record { plain = refl; unlabelled = refl; means = refl; says = refl }

pub array_load_begins : (k : ElementKind) → Begins (element_letter k ++ codes "aload") (mnemonic.ArrayLoad k)
unfolding mnemonic_of word_of
array_load_begins element.Int = record { plain = refl; unlabelled = refl; means = refl; says = refl }
array_load_begins element.Long = record { plain = refl; unlabelled = refl; means = refl; says = refl }
array_load_begins element.Ref = record { plain = refl; unlabelled = refl; means = refl; says = refl }
array_load_begins element.Byte = record { plain = refl; unlabelled = refl; means = refl; says = refl }
array_load_begins element.Char = record { plain = refl; unlabelled = refl; means = refl; says = refl }
array_load_begins element.Short = record { plain = refl; unlabelled = refl; means = refl; says = refl }

pub array_store_begins : (k : ElementKind) → Begins (element_letter k ++ codes "astore") (mnemonic.ArrayStore k)
unfolding mnemonic_of word_of
array_store_begins element.Int = record { plain = refl; unlabelled = refl; means = refl; says = refl }
array_store_begins element.Long = record { plain = refl; unlabelled = refl; means = refl; says = refl }
array_store_begins element.Ref = record { plain = refl; unlabelled = refl; means = refl; says = refl }
array_store_begins element.Byte = record { plain = refl; unlabelled = refl; means = refl; says = refl }
array_store_begins element.Char = record { plain = refl; unlabelled = refl; means = refl; says = refl }
array_store_begins element.Short = record { plain = refl; unlabelled = refl; means = refl; says = refl }

pub class_begins : (o : ClassOperation) → Begins (class_name o) (mnemonic.Class o)
unfolding mnemonic_of word_of
class_begins class.New = record { plain = refl; unlabelled = refl; means = refl; says = refl }
class_begins class.CheckCast = record { plain = refl; unlabelled = refl; means = refl; says = refl }
class_begins class.InstanceOf = record { plain = refl; unlabelled = refl; means = refl; says = refl }

pub virtual_begins : Begins (codes "invokevirtual") (mnemonic.Invoke invocation.Virtual)
unfolding mnemonic_of word_of
virtual_begins = record { plain = refl; unlabelled = refl; means = refl; says = refl }

pub special_begins : Begins (codes "invokespecial") (mnemonic.Invoke invocation.Special)
unfolding mnemonic_of word_of
special_begins = record { plain = refl; unlabelled = refl; means = refl; says = refl }

pub static_call_begins : Begins (codes "invokestatic") (mnemonic.Invoke invocation.Static)
unfolding mnemonic_of word_of
static_call_begins = record { plain = refl; unlabelled = refl; means = refl; says = refl }

pub interface_begins : Begins (codes "invokeinterface") mnemonic.InvokeInterface
unfolding mnemonic_of word_of
interface_begins = record { plain = refl; unlabelled = refl; means = refl; says = refl }

pub throw_begins : Begins (codes "athrow") mnemonic.Throw
unfolding mnemonic_of word_of
throw_begins = record { plain = refl; unlabelled = refl; means = refl; says = refl }

pub monitor_begins : (o : MonitorOperation) → Begins (monitor_name o) (mnemonic.Monitor o)
unfolding mnemonic_of word_of
monitor_begins monitor.Enter = record { plain = refl; unlabelled = refl; means = refl; says = refl }
monitor_begins monitor.Exit = record { plain = refl; unlabelled = refl; means = refl; says = refl }

-- ---- the words that mnemonics have

pub nop_said : word_of mnemonic.Nop ≡ codes "nop"
nop_said = nop_begins.says

pub null_said : word_of mnemonic.Null ≡ codes "aconst_null"
null_said = null_begins.says

pub small_int_said : (n : SmallInt) → word_of (mnemonic.SmallInt n) ≡ small_int_name n
small_int_said n = (small_int_begins n).says

pub small_long_said : (n : SmallLong) → word_of (mnemonic.SmallLong n) ≡ small_long_name n
small_long_said n = (small_long_begins n).says

pub byte_said : word_of mnemonic.Byte ≡ codes "bipush"
byte_said = byte_begins.says

pub short_said : word_of mnemonic.Short ≡ codes "sipush"
short_said = short_begins.says

pub narrow_said : word_of (mnemonic.Int width.Narrow) ≡ codes "ldc"
narrow_said = narrow_begins.says

pub wide_said : word_of (mnemonic.Int width.Wide) ≡ codes "ldc_w"
wide_said = wide_begins.says

pub long_said : word_of mnemonic.Long ≡ codes "ldc2_w"
long_said = long_begins.says

pub load_said : (k : Kind) → word_of (mnemonic.Local (accessed.Load k)) ≡ kind_letter k ++ codes "load"
load_said k = (load_begins k).says

pub first_load_said : (k : Kind) (n : FirstLocal) → word_of (mnemonic.FirstLocal (access.Load k («local».First n)))
    ≡ (kind_letter k ++ codes "load") ++ first_name n
first_load_said k n = (first_load_begins k n).says

pub store_said : (k : Kind) → word_of (mnemonic.Local (accessed.Store k)) ≡ kind_letter k ++ codes "store"
store_said k = (store_begins k).says

pub first_store_said : (k : Kind) (n : FirstLocal) → word_of (mnemonic.FirstLocal (access.Store k («local».First n)))
    ≡ (kind_letter k ++ codes "store") ++ first_name n
first_store_said k n = (first_store_begins k n).says

pub increment_said : word_of (mnemonic.Local accessed.Increment) ≡ codes "iinc"
increment_said = increment_begins.says

pub stack_said : (o : StackOperation) → word_of (mnemonic.Stack o) ≡ stack_name o
stack_said o = (stack_begins o).says

pub number_said : (o : NumberOperation) → word_of (mnemonic.Number o) ≡ number_name o
number_said o = (number_begins o).says

pub test_said : (t : Test) → word_of (mnemonic.Branch t) ≡ test_name t
test_said t = (test_begins t).says

pub return_said : (k : Option Kind) → word_of (mnemonic.Return k) ≡ return_text k
return_said k = (return_begins k).says

pub static_said : (a : Access) → word_of (mnemonic.Static a) ≡ access_name a ++ codes "static"
static_said a = (static_begins a).says

pub field_said : (a : Access) → word_of (mnemonic.Field a) ≡ access_name a ++ codes "field"
field_said a = (field_begins a).says

pub new_array_said : word_of mnemonic.NewArray ≡ codes "newarray"
new_array_said = new_array_begins.says

pub new_array_of_said : word_of mnemonic.NewArrayOf ≡ codes "anewarray"
new_array_of_said = new_array_of_begins.says

pub array_length_said : word_of mnemonic.ArrayLength ≡ codes "arraylength"
array_length_said = array_length_begins.says

pub array_load_said : (k : ElementKind) → word_of (mnemonic.ArrayLoad k) ≡ element_letter k ++ codes "aload"
array_load_said k = (array_load_begins k).says

pub array_store_said : (k : ElementKind) → word_of (mnemonic.ArrayStore k) ≡ element_letter k ++ codes "astore"
array_store_said k = (array_store_begins k).says

pub class_said : (o : ClassOperation) → word_of (mnemonic.Class o) ≡ class_name o
class_said o = (class_begins o).says

pub virtual_said : word_of (mnemonic.Invoke invocation.Virtual) ≡ codes "invokevirtual"
virtual_said = virtual_begins.says

pub special_said : word_of (mnemonic.Invoke invocation.Special) ≡ codes "invokespecial"
special_said = special_begins.says

pub static_call_said : word_of (mnemonic.Invoke invocation.Static) ≡ codes "invokestatic"
static_call_said = static_call_begins.says

pub interface_said : word_of mnemonic.InvokeInterface ≡ codes "invokeinterface"
interface_said = interface_begins.says

pub throw_said : word_of mnemonic.Throw ≡ codes "athrow"
throw_said = throw_begins.says

pub monitor_said : (o : MonitorOperation) → word_of (mnemonic.Monitor o) ≡ monitor_name o
monitor_said o = (monitor_begins o).says

pub ruleset said = (
  nop_said,
  null_said,
  small_int_said,
  small_long_said,
  byte_said,
  short_said,
  narrow_said,
  wide_said,
  long_said,
  load_said,
  first_load_said,
  store_said,
  first_store_said,
  increment_said,
  stack_said,
  number_said,
  test_said,
  return_said,
  static_said,
  field_said,
  new_array_said,
  new_array_of_said,
  array_length_said,
  array_load_said,
  array_store_said,
  class_said,
  virtual_said,
  special_said,
  static_call_said,
  interface_said,
  throw_said,
  monitor_said,
)
