-- The opcode of each instruction (JVMS 6.5, 7). Where it is after wide, 196 stands in its place.
use Rattle.std.specs.Prelude.{ℕ, ◌+◌, Option, Some, None}
use Rattle.model.specs.declared.values.Kind.{Kind}
use Rattle.model.specs.declared.values.Kind.TheVariants as kind
use Rattle.model.specs.declared.instructions.SmallInt.{SmallInt}
use Rattle.model.specs.declared.instructions.SmallInt.TheVariants.{MinusOne, Zero, One, Two, Three, Four, Five}
use Rattle.model.specs.declared.instructions.SmallLong.{SmallLong}
use Rattle.model.specs.declared.instructions.SmallLong.TheVariants as long
use Rattle.model.specs.declared.instructions.Width.TheVariants.{Narrow, Wide}
use Rattle.model.specs.declared.instructions.Constant.{Constant}
use Rattle.model.specs.declared.instructions.Constant.TheVariants as constant
use Rattle.model.specs.declared.instructions.FirstLocal.{FirstLocal}
use Rattle.model.specs.declared.instructions.FirstLocal.TheVariants as first
use Rattle.model.specs.declared.instructions.Local.TheVariants as local
use Rattle.model.specs.declared.instructions.Increment.TheVariants as increment
use Rattle.model.specs.declared.instructions.LocalAccess.{LocalAccess}
use Rattle.model.specs.declared.instructions.LocalAccess.TheVariants as access
use Rattle.model.specs.declared.instructions.StackOperation.{StackOperation}
use Rattle.model.specs.declared.instructions.StackOperation.TheVariants.{Pop, Pop2, Dup, DupX1, DupX2, Dup2, Dup2X1}
use Rattle.model.specs.declared.instructions.StackOperation.TheVariants.{Dup2X2, Swap}
use Rattle.model.specs.declared.instructions.NumberKind.TheVariants as number_kind
use Rattle.model.specs.declared.instructions.Operator.{Operator}
use Rattle.model.specs.declared.instructions.Operator.TheVariants.{Add, Sub, Mul, Div, Rem, Shl, Shr, Ushr, And, Or}
use Rattle.model.specs.declared.instructions.Operator.TheVariants.{Xor}
use Rattle.model.specs.declared.instructions.Conversion.TheVariants.{IntToLong, LongToInt, IntToByte, IntToChar}
use Rattle.model.specs.declared.instructions.Conversion.TheVariants.{IntToShort}
use Rattle.model.specs.declared.instructions.NumberOperation.{NumberOperation}
use Rattle.model.specs.declared.instructions.NumberOperation.TheVariants.{Binary, Negate, Convert, CompareLongs}
use Rattle.model.specs.declared.instructions.Comparison.{Comparison}
use Rattle.model.specs.declared.instructions.Comparison.TheVariants.{Equal, NotEqual, Less, GreaterOrEqual, Greater}
use Rattle.model.specs.declared.instructions.Comparison.TheVariants.{LessOrEqual}
use Rattle.model.specs.declared.instructions.Identity.TheVariants.{Same, Different}
use Rattle.model.specs.declared.instructions.Test.{Test}
use Rattle.model.specs.declared.instructions.Test.TheVariants as test
use Rattle.model.specs.declared.instructions.Access.{Access}
use Rattle.model.specs.declared.instructions.Access.TheVariants.{Get, Put}
use Rattle.model.specs.declared.instructions.ElementKind.{ElementKind}
use Rattle.model.specs.declared.instructions.ElementKind.TheVariants as element
use Rattle.model.specs.declared.instructions.ArrayOperation.{ArrayOperation}
use Rattle.model.specs.declared.instructions.ArrayOperation.TheVariants as array
use Rattle.model.specs.declared.instructions.ClassOperation.{ClassOperation}
use Rattle.model.specs.declared.instructions.ClassOperation.TheVariants as class
use Rattle.model.specs.declared.instructions.Invocation.{Invocation}
use Rattle.model.specs.declared.instructions.Invocation.TheVariants as invoke
use Rattle.model.specs.declared.instructions.MonitorOperation.{MonitorOperation}
use Rattle.model.specs.declared.instructions.MonitorOperation.TheVariants.{Enter, Exit}
use Rattle.model.specs.declared.instructions.Instruction.{Instruction}
use Rattle.model.specs.declared.instructions.Instruction.TheVariants as instruction

-- an instruction whose operands are pcs and pool numbers
abbrev pub Instr : Type 0
Instr = Instruction ℕ ℕ ℕ ℕ ℕ ℕ

-- iconst_m1 to iconst_5
abbrev pub small_int_opcode : SmallInt → ℕ
small_int_opcode MinusOne = 2
small_int_opcode Zero = 3
small_int_opcode One = 4
small_int_opcode Two = 5
small_int_opcode Three = 6
small_int_opcode Four = 7
small_int_opcode Five = 8

-- lconst_0, lconst_1
abbrev pub small_long_opcode : SmallLong → ℕ
small_long_opcode long.Zero = 9
small_long_opcode long.One = 10

-- aconst_null to ldc2_w
abbrev pub constant_opcode : Constant ℕ ℕ → ℕ
constant_opcode constant.Null = 1
constant_opcode (constant.SmallInt n) = small_int_opcode n
constant_opcode (constant.SmallLong n) = small_long_opcode n
constant_opcode (constant.Byte z) = 16
constant_opcode (constant.Short z) = 17
constant_opcode (constant.Int Narrow n) = 18
constant_opcode (constant.Int Wide n) = 19
constant_opcode (constant.Long n) = 20

-- iload, lload, aload
abbrev pub load_opcode : Kind → ℕ
load_opcode kind.Int = 21
load_opcode kind.Long = 22
load_opcode kind.Ref = 25

-- iload_0, lload_0, aload_0; the locals 1 to 3 have the next opcodes
abbrev pub load_0_opcode : Kind → ℕ
load_0_opcode kind.Int = 26
load_0_opcode kind.Long = 30
load_0_opcode kind.Ref = 42

-- istore, lstore, astore
abbrev pub store_opcode : Kind → ℕ
store_opcode kind.Int = 54
store_opcode kind.Long = 55
store_opcode kind.Ref = 58

-- istore_0, lstore_0, astore_0
abbrev pub store_0_opcode : Kind → ℕ
store_0_opcode kind.Int = 59
store_0_opcode kind.Long = 63
store_0_opcode kind.Ref = 75

-- the number of a local that an opcode names by itself
abbrev pub first_number : FirstLocal → ℕ
first_number first.Zero = 0
first_number first.One = 1
first_number first.Two = 2
first_number first.Three = 3

-- loads, stores and iinc
abbrev pub access_opcode : LocalAccess → ℕ
access_opcode (access.Load k (local.First n)) = load_0_opcode k + first_number n
access_opcode (access.Load k (local.Byte n)) = load_opcode k
access_opcode (access.Load k (local.Wide n)) = 196
access_opcode (access.Store k (local.First n)) = store_0_opcode k + first_number n
access_opcode (access.Store k (local.Byte n)) = store_opcode k
access_opcode (access.Store k (local.Wide n)) = 196
access_opcode (access.Increment (increment.Byte n z)) = 132
access_opcode (access.Increment (increment.Wide n z)) = 196

-- pop to swap
abbrev pub stack_opcode : StackOperation → ℕ
stack_opcode Pop = 87
stack_opcode Pop2 = 88
stack_opcode Dup = 89
stack_opcode DupX1 = 90
stack_opcode DupX2 = 91
stack_opcode Dup2 = 92
stack_opcode Dup2X1 = 93
stack_opcode Dup2X2 = 94
stack_opcode Swap = 95

-- iadd and its kin; those on longs have the next opcode
abbrev pub operator_opcode : Operator → ℕ
operator_opcode Add = 96
operator_opcode Sub = 100
operator_opcode Mul = 104
operator_opcode Div = 108
operator_opcode Rem = 112
operator_opcode Shl = 120
operator_opcode Shr = 122
operator_opcode Ushr = 124
operator_opcode And = 126
operator_opcode Or = 128
operator_opcode Xor = 130

-- iadd to lcmp
abbrev pub number_opcode : NumberOperation → ℕ
number_opcode (Binary number_kind.Int op) = operator_opcode op
number_opcode (Binary number_kind.Long op) = operator_opcode op + 1
number_opcode (Negate number_kind.Int) = 116
number_opcode (Negate number_kind.Long) = 117
number_opcode (Convert IntToLong) = 133
number_opcode (Convert LongToInt) = 136
number_opcode (Convert IntToByte) = 145
number_opcode (Convert IntToChar) = 146
number_opcode (Convert IntToShort) = 147
number_opcode CompareLongs = 148

-- ifeq to ifle and if_icmpeq to if_icmple follow one order
abbrev pub comparison_number : Comparison → ℕ
comparison_number Equal = 0
comparison_number NotEqual = 1
comparison_number Less = 2
comparison_number GreaterOrEqual = 3
comparison_number Greater = 4
comparison_number LessOrEqual = 5

-- the branches that test something, goto and goto_w
abbrev pub branch_opcode : Test → ℕ
branch_opcode (test.Always Narrow) = 167
branch_opcode (test.Always Wide) = 200
branch_opcode (test.Zero c) = 153 + comparison_number c
branch_opcode (test.Ints c) = 159 + comparison_number c
branch_opcode (test.Refs Same) = 165
branch_opcode (test.Refs Different) = 166
branch_opcode (test.Null Same) = 198
branch_opcode (test.Null Different) = 199

-- ireturn, lreturn, areturn, return
abbrev pub return_opcode : Option Kind → ℕ
return_opcode None = 177
return_opcode (Some kind.Int) = 172
return_opcode (Some kind.Long) = 173
return_opcode (Some kind.Ref) = 176

-- getstatic, putstatic
abbrev pub static_opcode : Access → ℕ
static_opcode Get = 178
static_opcode Put = 179

-- getfield, putfield
abbrev pub field_opcode : Access → ℕ
field_opcode Get = 180
field_opcode Put = 181

-- iaload to saload
abbrev pub element_load_opcode : ElementKind → ℕ
element_load_opcode element.Int = 46
element_load_opcode element.Long = 47
element_load_opcode element.Ref = 50
element_load_opcode element.Byte = 51
element_load_opcode element.Char = 52
element_load_opcode element.Short = 53

-- iastore to sastore
abbrev pub element_store_opcode : ElementKind → ℕ
element_store_opcode element.Int = 79
element_store_opcode element.Long = 80
element_store_opcode element.Ref = 83
element_store_opcode element.Byte = 84
element_store_opcode element.Char = 85
element_store_opcode element.Short = 86

-- newarray, anewarray, arraylength, and access to elements
abbrev pub array_opcode : ArrayOperation ℕ → ℕ
array_opcode (array.New type) = 188
array_opcode (array.NewOf n) = 189
array_opcode array.Length = 190
array_opcode (array.Load k) = element_load_opcode k
array_opcode (array.Store k) = element_store_opcode k

-- new, checkcast, instanceof
abbrev pub class_opcode : ClassOperation → ℕ
class_opcode class.New = 187
class_opcode class.CheckCast = 192
class_opcode class.InstanceOf = 193

-- the four calls
abbrev pub invoke_opcode : Invocation → ℕ
invoke_opcode invoke.Virtual = 182
invoke_opcode invoke.Special = 183
invoke_opcode invoke.Static = 184
invoke_opcode (invoke.Interface count) = 185

-- monitorenter, monitorexit
abbrev pub monitor_opcode : MonitorOperation → ℕ
monitor_opcode Enter = 194
monitor_opcode Exit = 195

-- the byte that the spelling of an instruction begins with
abbrev pub opcode : Instr → ℕ
opcode instruction.Nop = 0
opcode (instruction.Constant c) = constant_opcode c
opcode (instruction.Local a) = access_opcode a
opcode (instruction.Stack op) = stack_opcode op
opcode (instruction.Number op) = number_opcode op
opcode (instruction.Branch t target) = branch_opcode t
opcode (instruction.TableSwitch s) = 170
opcode (instruction.LookupSwitch s) = 171
opcode (instruction.Return k) = return_opcode k
opcode (instruction.Static a n) = static_opcode a
opcode (instruction.Field a n) = field_opcode a
opcode (instruction.Array op) = array_opcode op
opcode (instruction.Class op n) = class_opcode op
opcode (instruction.Invoke how n) = invoke_opcode how
opcode instruction.Throw = 191
opcode (instruction.Monitor op) = monitor_opcode op
