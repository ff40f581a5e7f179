-- What stands after the opcode of each instruction (JVMS 6.5, 4.9.1).
use Rattle.std.specs.Prelude.{ℕ, ℤ, pos, ◌+ℤ◌, ◌-ℤ◌, List, [], ◌∷◌, ◌++◌, length}
use Rattle.std.specs.Int as int
use Rattle.std.specs.Int.{w8, w16, w32}
use Rattle.std.specs.List.{flat_map}
use Rattle.model.specs.Bytecode.Fields.{u2, signed, offset, pad}
use Rattle.model.specs.Bytecode.Opcodes.{Instr, load_opcode, store_opcode}
use Rattle.model.specs.Switches.{Table, Lookup}
use Rattle.model.specs.declared.instructions.Width.TheVariants.{Narrow, Wide}
use Rattle.model.specs.declared.instructions.Constant.{Constant}
use Rattle.model.specs.declared.instructions.Constant.TheVariants as constant
use Rattle.model.specs.declared.instructions.Local.TheVariants as local
use Rattle.model.specs.declared.instructions.Increment.TheVariants as increment
use Rattle.model.specs.declared.instructions.LocalAccess.{LocalAccess}
use Rattle.model.specs.declared.instructions.LocalAccess.TheVariants as access
use Rattle.model.specs.declared.instructions.Test.{Test}
use Rattle.model.specs.declared.instructions.Test.TheVariants as test
use Rattle.model.specs.declared.instructions.Primitive.{Primitive}
use Rattle.model.specs.declared.instructions.Primitive.TheVariants.{Char, Byte, Short, Int, Long}
use Rattle.model.specs.declared.instructions.ArrayOperation.{ArrayOperation}
use Rattle.model.specs.declared.instructions.ArrayOperation.TheVariants as array
use Rattle.model.specs.declared.instructions.Invocation.{Invocation}
use Rattle.model.specs.declared.instructions.Invocation.TheVariants as invoke
use Rattle.model.specs.declared.instructions.Instruction.TheVariants as instruction

-- bipush, sipush, ldc, ldc_w, ldc2_w have one operand, the others none
abbrev pub constant_operands : Constant ℕ ℕ → List ℕ
constant_operands constant.Null = []
constant_operands (constant.SmallInt n) = []
constant_operands (constant.SmallLong n) = []
constant_operands (constant.Byte z) = signed w8 z
constant_operands (constant.Short z) = signed w16 z
constant_operands (constant.Int Narrow n) = n ∷ []
constant_operands (constant.Int Wide n) = u2 n
constant_operands (constant.Long n) = u2 n

-- after wide stands the opcode of the short form
abbrev pub access_operands : LocalAccess → List ℕ
access_operands (access.Load k (local.First n)) = []
access_operands (access.Load k (local.Byte n)) = n ∷ []
access_operands (access.Load k (local.Wide n)) = load_opcode k ∷ u2 n
access_operands (access.Store k (local.First n)) = []
access_operands (access.Store k (local.Byte n)) = n ∷ []
access_operands (access.Store k (local.Wide n)) = store_opcode k ∷ u2 n
access_operands (access.Increment (increment.Byte n z)) = n ∷ signed w8 z
access_operands (access.Increment (increment.Wide n z)) = 132 ∷ u2 n ++ signed w16 z

-- the width of a branch's offset
abbrev pub branch_width : Test → int.Width
branch_width (test.Always Narrow) = w16
branch_width (test.Always Wide) = w32
branch_width (test.Zero c) = w16
branch_width (test.Ints c) = w16
branch_width (test.Refs c) = w16
branch_width (test.Null c) = w16

-- the int of a table's last target
abbrev pub table_high : Table ℕ → ℤ
table_high s = s.low +ℤ pos (length s.targets) -ℤ pos 1

-- pad, default, low, high, and the targets (JVMS 6.5, tableswitch)
abbrev pub table_operands : ℕ → Table ℕ → List ℕ
table_operands pc s = pad pc
    ++ (signed w32 (offset pc s.default)
    ++ (signed w32 s.low ++ (signed w32 (table_high s) ++ flat_map (λ t. signed w32 (offset pc t)) s.targets)))

-- pad, default, count, and pairs of a key and a target (JVMS 6.5, lookupswitch)
abbrev pub lookup_operands : ℕ → Lookup ℕ → List ℕ
lookup_operands pc s = pad pc
    ++ (signed w32 (offset pc s.default)
    ++ (signed w32 (pos (length s.pairs)) ++ flat_map (λ p. signed w32 p.0 ++ signed w32 (offset pc p.1)) s.pairs))

-- the types of newarray (JVMS 6.5, table 6.5.newarray-A)
abbrev pub primitive_number : Primitive → ℕ
primitive_number Char = 5
primitive_number Byte = 8
primitive_number Short = 9
primitive_number Int = 10
primitive_number Long = 11

-- the type of newarray, the class of anewarray
abbrev pub array_operands : ArrayOperation ℕ → List ℕ
array_operands (array.New type) = primitive_number type ∷ []
array_operands (array.NewOf n) = u2 n
array_operands array.Length = []
array_operands (array.Load k) = []
array_operands (array.Store k) = []

-- the method, and for invokeinterface a count and a zero byte
abbrev pub invoke_operands : Invocation → ℕ → List ℕ
invoke_operands invoke.Virtual n = u2 n
invoke_operands invoke.Special n = u2 n
invoke_operands invoke.Static n = u2 n
invoke_operands (invoke.Interface count) n = u2 n ++ count ∷ 0 ∷ []

-- the bytes after the opcode of an instruction at this pc
abbrev pub operands : ℕ → Instr → List ℕ
operands pc instruction.Nop = []
operands pc (instruction.Constant c) = constant_operands c
operands pc (instruction.Local a) = access_operands a
operands pc (instruction.Stack op) = []
operands pc (instruction.Number op) = []
operands pc (instruction.Branch t target) = signed (branch_width t) (offset pc target)
operands pc (instruction.TableSwitch s) = table_operands pc s
operands pc (instruction.LookupSwitch s) = lookup_operands pc s
operands pc (instruction.Return k) = []
operands pc (instruction.Static a n) = u2 n
operands pc (instruction.Field a n) = u2 n
operands pc (instruction.Array op) = array_operands op
operands pc (instruction.Class op n) = u2 n
operands pc (instruction.Invoke how n) = invoke_operands how n
operands pc instruction.Throw = []
operands pc (instruction.Monitor op) = []
