use Rattle.std.specs.Prelude.{ℤ, Bool, true, false}
use Rattle.model.specs.declared.instructions.Constant.{Constant as ConstantOf}
use Rattle.model.specs.declared.instructions.Constant.TheVariants.{Null, SmallInt, SmallLong, Byte, Short, Int, Long}
use Rattle.model.specs.declared.instructions.Instruction.TheVariants.{Nop, Constant, Local, Stack, Number, Branch}
use Rattle.model.specs.declared.instructions.Instruction.TheVariants.{TableSwitch, LookupSwitch, Return}
use Rattle.model.specs.declared.instructions.Instruction.TheVariants.{Static as StaticField, Field, Array, Class}
use Rattle.model.specs.declared.instructions.Instruction.TheVariants.{Invoke, Throw, Monitor}
use Rattle.model.specs.Table.Next.{Listed}

-- constants for which each operation has room; a long that `ldc2_w` loads may have more bits
abbrev pub is_short : ConstantOf ℤ ℤ → Bool
is_short Null = true
is_short (SmallInt n) = true
is_short (SmallLong n) = true
is_short (Byte z) = true
is_short (Short z) = true
is_short (Int width z) = true
is_short (Long z) = false

-- instructions that change the running frame alone, but for switches and such longs
abbrev pub is_plain : Listed → Bool
is_plain Nop = true
is_plain (Constant c) = is_short c
is_plain (Local access) = true
is_plain (Stack operation) = true
is_plain (Number operation) = true
is_plain (Branch test target) = true
is_plain (TableSwitch table) = false
is_plain (LookupSwitch lookup) = false
is_plain (Return kind) = false
is_plain (StaticField access member) = false
is_plain (Field access member) = false
is_plain (Array operation) = false
is_plain (Class operation name) = false
is_plain (Invoke invocation member) = false
is_plain Throw = false
is_plain (Monitor operation) = false
