use Rattle.std.specs.Prelude.{Bool, true, false}
use Rattle.model.specs.declared.instructions.ClassOperation.{ClassOperation}
use Rattle.model.specs.declared.instructions.ClassOperation.TheVariants.{New, CheckCast, InstanceOf}
use Rattle.model.specs.declared.instructions.Instruction.TheVariants.{Nop, Constant, Local, Stack, Number, Branch}
use Rattle.model.specs.declared.instructions.Instruction.TheVariants.{TableSwitch, LookupSwitch, Return}
use Rattle.model.specs.declared.instructions.Instruction.TheVariants.{Static as StaticField, Field, Array, Class}
use Rattle.model.specs.declared.instructions.Instruction.TheVariants.{Invoke, Throw, Monitor}
use Rattle.model.specs.Table.Next.{Listed}

-- Which instructions name a field or a type, for which operations have numbers.

-- ---- instructions that name a field, or the class of a new object

abbrev pub makes_object : ClassOperation → Bool
makes_object New = true
makes_object CheckCast = false
makes_object InstanceOf = false

abbrev pub goes_by_name : Listed → Bool
goes_by_name Nop = false
goes_by_name (Constant c) = false
goes_by_name (Local access) = false
goes_by_name (Stack operation) = false
goes_by_name (Number operation) = false
goes_by_name (Branch test target) = false
goes_by_name (TableSwitch table) = false
goes_by_name (LookupSwitch lookup) = false
goes_by_name (Return kind) = false
goes_by_name (StaticField access member) = true
goes_by_name (Field access member) = true
goes_by_name (Array operation) = false
goes_by_name (Class operation name) = makes_object operation
goes_by_name (Invoke invocation member) = false
goes_by_name Throw = false
goes_by_name (Monitor operation) = false

-- ---- instructions that name a type, or work on arrays

abbrev pub class_goes_by_type : ClassOperation → Bool
class_goes_by_type New = false
class_goes_by_type CheckCast = true
class_goes_by_type InstanceOf = true

abbrev pub goes_by_type : Listed → Bool
goes_by_type Nop = false
goes_by_type (Constant c) = false
goes_by_type (Local access) = false
goes_by_type (Stack operation) = false
goes_by_type (Number operation) = false
goes_by_type (Branch test target) = false
goes_by_type (TableSwitch table) = false
goes_by_type (LookupSwitch lookup) = false
goes_by_type (Return kind) = false
goes_by_type (StaticField access member) = false
goes_by_type (Field access member) = false
goes_by_type (Array operation) = true
goes_by_type (Class operation name) = class_goes_by_type operation
goes_by_type (Invoke invocation member) = false
goes_by_type Throw = false
goes_by_type (Monitor operation) = false
