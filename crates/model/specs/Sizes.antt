use Rattle.std.specs.Prelude.{ℕ, ◌+◌, ◌-◌, ◌*◌, ◌%◌, length}
use Rattle.model.specs.declared.instructions.ArrayOperation.{ArrayOperation}
use Rattle.model.specs.declared.instructions.ArrayOperation.TheVariants as array
use Rattle.model.specs.declared.instructions.Constant.{Constant}
use Rattle.model.specs.declared.instructions.Constant.TheVariants as constant
use Rattle.model.specs.declared.instructions.Increment.{Increment}
use Rattle.model.specs.declared.instructions.Increment.TheVariants as increment
use Rattle.model.specs.declared.instructions.Instruction.{Instruction}
use Rattle.model.specs.declared.instructions.Instruction.TheVariants as instruction
use Rattle.model.specs.declared.instructions.Invocation.{Invocation}
use Rattle.model.specs.declared.instructions.Invocation.TheVariants as invocation
use Rattle.model.specs.declared.instructions.Local.{Local}
use Rattle.model.specs.declared.instructions.Local.TheVariants as «local»
use Rattle.model.specs.declared.instructions.LocalAccess.{LocalAccess}
use Rattle.model.specs.declared.instructions.LocalAccess.TheVariants as access
use Rattle.model.specs.declared.instructions.Test.{Test}
use Rattle.model.specs.declared.instructions.Test.TheVariants as test
use Rattle.model.specs.declared.instructions.Width.TheVariants.{Narrow, Wide}

-- the bytes of instructions, with their opcodes (JVMS 6.5)

abbrev pub constant_size : {Int Long : Type 0} → Constant Int Long → ℕ
constant_size constant.Null = 1
constant_size (constant.SmallInt n) = 1
constant_size (constant.SmallLong n) = 1
constant_size (constant.Byte n) = 2
constant_size (constant.Short n) = 3
constant_size (constant.Int Narrow n) = 2
constant_size (constant.Int Wide n) = 3
constant_size (constant.Long n) = 3

abbrev pub index_size : Local → ℕ
index_size («local».First n) = 1
index_size («local».Byte n) = 2
index_size («local».Wide n) = 4

abbrev pub increment_size : Increment → ℕ
increment_size (increment.Byte n by) = 3
increment_size (increment.Wide n by) = 6

abbrev pub local_size : LocalAccess → ℕ
local_size (access.Load kind n) = index_size n
local_size (access.Store kind n) = index_size n
local_size (access.Increment i) = increment_size i

abbrev pub branch_size : Test → ℕ
branch_size (test.Always Narrow) = 3
branch_size (test.Always Wide) = 5
branch_size (test.Zero c) = 3
branch_size (test.Ints c) = 3
branch_size (test.Refs i) = 3
branch_size (test.Null i) = 3

abbrev pub array_size : {Class : Type 0} → ArrayOperation Class → ℕ
array_size (array.New p) = 2
array_size (array.NewOf c) = 3
array_size array.Length = 1
array_size (array.Load kind) = 1
array_size (array.Store kind) = 1

abbrev pub invoke_size : Invocation → ℕ
invoke_size invocation.Virtual = 3
invoke_size invocation.Special = 3
invoke_size invocation.Static = 3
invoke_size (invocation.Interface count) = 5

-- a switch's operands begin at a multiple of four from the method's start
abbrev pub pad_at : ℕ → ℕ
pad_at pc = 3 - pc % 4

-- the size of an instruction at a pc
abbrev pub size_at : {Target Int Long Field Method Class : Type 0} → ℕ → Instruction Target Int Long Field Method Class
    → ℕ
size_at pc instruction.Nop = 1
size_at pc (instruction.Constant c) = constant_size c
size_at pc (instruction.Local l) = local_size l
size_at pc (instruction.Stack s) = 1
size_at pc (instruction.Number n) = 1
size_at pc (instruction.Branch t target) = branch_size t
size_at pc (instruction.TableSwitch t) = pad_at pc + 13 + 4 * length t.targets
size_at pc (instruction.LookupSwitch l) = pad_at pc + 9 + 8 * length l.pairs
size_at pc (instruction.Return kind) = 1
size_at pc (instruction.Static a f) = 3
size_at pc (instruction.Field a f) = 3
size_at pc (instruction.Array a) = array_size a
size_at pc (instruction.Class o c) = 3
size_at pc (instruction.Invoke i m) = invoke_size i
size_at pc instruction.Throw = 1
size_at pc (instruction.Monitor m) = 1
