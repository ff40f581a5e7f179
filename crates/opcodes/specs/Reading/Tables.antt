-- Which instruction or layout an opcode stands for (JVMS 7).
use Rattle.std.specs.Prelude.{ℕ, List, [], ◌∷◌, Option, Some, None, nat_lt, if◌then◌else◌}
use Rattle.model.specs.Bytecode.Opcodes.{Instr}
use Rattle.model.specs.declared.values.Kind.TheVariants as kind
use Rattle.model.specs.declared.instructions.Primitive.{Primitive}
use Rattle.model.specs.declared.instructions.Access.TheVariants as field
use Rattle.model.specs.declared.instructions.ArrayOperation.TheVariants as array
use Rattle.model.specs.declared.instructions.ClassOperation.TheVariants as class
use Rattle.model.specs.declared.instructions.Comparison.TheVariants as comparison
use Rattle.model.specs.declared.instructions.Constant.TheVariants as constant
use Rattle.model.specs.declared.instructions.Conversion.TheVariants as conversion
use Rattle.model.specs.declared.instructions.ElementKind.TheVariants as element
use Rattle.model.specs.declared.instructions.FirstLocal.TheVariants as first
use Rattle.model.specs.declared.instructions.Identity.TheVariants as identity
use Rattle.model.specs.declared.instructions.Instruction.TheVariants as instruction
use Rattle.model.specs.declared.instructions.Local.TheVariants as local
use Rattle.model.specs.declared.instructions.LocalAccess.TheVariants as access
use Rattle.model.specs.declared.instructions.MonitorOperation.TheVariants as monitor
use Rattle.model.specs.declared.instructions.NumberKind.TheVariants as number_kind
use Rattle.model.specs.declared.instructions.NumberOperation.TheVariants as number
use Rattle.model.specs.declared.instructions.Operator.TheVariants as operator
use Rattle.model.specs.declared.instructions.Primitive.TheVariants as primitive
use Rattle.model.specs.declared.instructions.SmallInt.TheVariants as small_int
use Rattle.model.specs.declared.instructions.SmallLong.TheVariants as small_long
use Rattle.model.specs.declared.instructions.StackOperation.TheVariants as stack
use Rattle.model.specs.declared.instructions.Test.TheVariants as test
use Rattle.model.specs.declared.instructions.Width.TheVariants as width
use Rattle.opcodes.specs.declared.layout.Layout.{Layout}
use Rattle.opcodes.specs.declared.layout.Layout.TheVariants as layout
use Rattle.opcodes.specs.declared.layout.Named.TheVariants as named
use Rattle.opcodes.specs.Reading.Steps.{entry_at}

-- opcodes below 54 that have no operands
abbrev pub constants_and_loads : List (ℕ × Instr)
constants_and_loads =
    (0, instruction.Nop) ∷
    (1, instruction.Constant constant.Null) ∷
    (2, instruction.Constant (constant.SmallInt small_int.MinusOne)) ∷
    (3, instruction.Constant (constant.SmallInt small_int.Zero)) ∷
    (4, instruction.Constant (constant.SmallInt small_int.One)) ∷
    (5, instruction.Constant (constant.SmallInt small_int.Two)) ∷
    (6, instruction.Constant (constant.SmallInt small_int.Three)) ∷
    (7, instruction.Constant (constant.SmallInt small_int.Four)) ∷
    (8, instruction.Constant (constant.SmallInt small_int.Five)) ∷
    (9, instruction.Constant (constant.SmallLong small_long.Zero)) ∷
    (10, instruction.Constant (constant.SmallLong small_long.One)) ∷
    (26, instruction.Local (access.Load kind.Int (local.First first.Zero))) ∷
    (27, instruction.Local (access.Load kind.Int (local.First first.One))) ∷
    (28, instruction.Local (access.Load kind.Int (local.First first.Two))) ∷
    (29, instruction.Local (access.Load kind.Int (local.First first.Three))) ∷
    (30, instruction.Local (access.Load kind.Long (local.First first.Zero))) ∷
    (31, instruction.Local (access.Load kind.Long (local.First first.One))) ∷
    (32, instruction.Local (access.Load kind.Long (local.First first.Two))) ∷
    (33, instruction.Local (access.Load kind.Long (local.First first.Three))) ∷
    (42, instruction.Local (access.Load kind.Ref (local.First first.Zero))) ∷
    (43, instruction.Local (access.Load kind.Ref (local.First first.One))) ∷
    (44, instruction.Local (access.Load kind.Ref (local.First first.Two))) ∷
    (45, instruction.Local (access.Load kind.Ref (local.First first.Three))) ∷
    (46, instruction.Array (array.Load element.Int)) ∷
    (47, instruction.Array (array.Load element.Long)) ∷
    (50, instruction.Array (array.Load element.Ref)) ∷
    (51, instruction.Array (array.Load element.Byte)) ∷
    (52, instruction.Array (array.Load element.Char)) ∷
    (53, instruction.Array (array.Load element.Short)) ∷
    []

-- those below 96
abbrev pub stores_and_stack : List (ℕ × Instr)
stores_and_stack =
    (59, instruction.Local (access.Store kind.Int (local.First first.Zero))) ∷
    (60, instruction.Local (access.Store kind.Int (local.First first.One))) ∷
    (61, instruction.Local (access.Store kind.Int (local.First first.Two))) ∷
    (62, instruction.Local (access.Store kind.Int (local.First first.Three))) ∷
    (63, instruction.Local (access.Store kind.Long (local.First first.Zero))) ∷
    (64, instruction.Local (access.Store kind.Long (local.First first.One))) ∷
    (65, instruction.Local (access.Store kind.Long (local.First first.Two))) ∷
    (66, instruction.Local (access.Store kind.Long (local.First first.Three))) ∷
    (75, instruction.Local (access.Store kind.Ref (local.First first.Zero))) ∷
    (76, instruction.Local (access.Store kind.Ref (local.First first.One))) ∷
    (77, instruction.Local (access.Store kind.Ref (local.First first.Two))) ∷
    (78, instruction.Local (access.Store kind.Ref (local.First first.Three))) ∷
    (79, instruction.Array (array.Store element.Int)) ∷
    (80, instruction.Array (array.Store element.Long)) ∷
    (83, instruction.Array (array.Store element.Ref)) ∷
    (84, instruction.Array (array.Store element.Byte)) ∷
    (85, instruction.Array (array.Store element.Char)) ∷
    (86, instruction.Array (array.Store element.Short)) ∷
    (87, instruction.Stack stack.Pop) ∷
    (88, instruction.Stack stack.Pop2) ∷
    (89, instruction.Stack stack.Dup) ∷
    (90, instruction.Stack stack.DupX1) ∷
    (91, instruction.Stack stack.DupX2) ∷
    (92, instruction.Stack stack.Dup2) ∷
    (93, instruction.Stack stack.Dup2X1) ∷
    (94, instruction.Stack stack.Dup2X2) ∷
    (95, instruction.Stack stack.Swap) ∷
    []

-- those from 96 on
abbrev pub numbers_and_returns : List (ℕ × Instr)
numbers_and_returns =
    (96, instruction.Number (number.Binary number_kind.Int operator.Add)) ∷
    (97, instruction.Number (number.Binary number_kind.Long operator.Add)) ∷
    (100, instruction.Number (number.Binary number_kind.Int operator.Sub)) ∷
    (101, instruction.Number (number.Binary number_kind.Long operator.Sub)) ∷
    (104, instruction.Number (number.Binary number_kind.Int operator.Mul)) ∷
    (105, instruction.Number (number.Binary number_kind.Long operator.Mul)) ∷
    (108, instruction.Number (number.Binary number_kind.Int operator.Div)) ∷
    (109, instruction.Number (number.Binary number_kind.Long operator.Div)) ∷
    (112, instruction.Number (number.Binary number_kind.Int operator.Rem)) ∷
    (113, instruction.Number (number.Binary number_kind.Long operator.Rem)) ∷
    (116, instruction.Number (number.Negate number_kind.Int)) ∷
    (117, instruction.Number (number.Negate number_kind.Long)) ∷
    (120, instruction.Number (number.Binary number_kind.Int operator.Shl)) ∷
    (121, instruction.Number (number.Binary number_kind.Long operator.Shl)) ∷
    (122, instruction.Number (number.Binary number_kind.Int operator.Shr)) ∷
    (123, instruction.Number (number.Binary number_kind.Long operator.Shr)) ∷
    (124, instruction.Number (number.Binary number_kind.Int operator.Ushr)) ∷
    (125, instruction.Number (number.Binary number_kind.Long operator.Ushr)) ∷
    (126, instruction.Number (number.Binary number_kind.Int operator.And)) ∷
    (127, instruction.Number (number.Binary number_kind.Long operator.And)) ∷
    (128, instruction.Number (number.Binary number_kind.Int operator.Or)) ∷
    (129, instruction.Number (number.Binary number_kind.Long operator.Or)) ∷
    (130, instruction.Number (number.Binary number_kind.Int operator.Xor)) ∷
    (131, instruction.Number (number.Binary number_kind.Long operator.Xor)) ∷
    (133, instruction.Number (number.Convert conversion.IntToLong)) ∷
    (136, instruction.Number (number.Convert conversion.LongToInt)) ∷
    (145, instruction.Number (number.Convert conversion.IntToByte)) ∷
    (146, instruction.Number (number.Convert conversion.IntToChar)) ∷
    (147, instruction.Number (number.Convert conversion.IntToShort)) ∷
    (148, instruction.Number number.CompareLongs) ∷
    (172, instruction.Return (Some kind.Int)) ∷
    (173, instruction.Return (Some kind.Long)) ∷
    (176, instruction.Return (Some kind.Ref)) ∷
    (177, instruction.Return None) ∷
    (190, instruction.Array array.Length) ∷
    (191, instruction.Throw) ∷
    (194, instruction.Monitor monitor.Enter) ∷
    (195, instruction.Monitor monitor.Exit) ∷
    []

-- the instruction of an opcode that has no operands
unfoldable pub bare_of : ℕ → Option Instr
bare_of b = if nat_lt b 54 then entry_at constants_and_loads b else (if nat_lt b 96 then entry_at stores_and_stack b
    else entry_at numbers_and_returns b)

-- opcodes below 170 that have operands
abbrev pub low_layouts : List (ℕ × Layout)
low_layouts =
    (16, layout.Byte) ∷
    (17, layout.Short) ∷
    (18, layout.NarrowInt) ∷
    (19, layout.Named named.Int) ∷
    (20, layout.Named named.Long) ∷
    (21, layout.Load kind.Int) ∷
    (22, layout.Load kind.Long) ∷
    (25, layout.Load kind.Ref) ∷
    (54, layout.Store kind.Int) ∷
    (55, layout.Store kind.Long) ∷
    (58, layout.Store kind.Ref) ∷
    (132, layout.Increment) ∷
    (153, layout.Branch (test.Zero comparison.Equal)) ∷
    (154, layout.Branch (test.Zero comparison.NotEqual)) ∷
    (155, layout.Branch (test.Zero comparison.Less)) ∷
    (156, layout.Branch (test.Zero comparison.GreaterOrEqual)) ∷
    (157, layout.Branch (test.Zero comparison.Greater)) ∷
    (158, layout.Branch (test.Zero comparison.LessOrEqual)) ∷
    (159, layout.Branch (test.Ints comparison.Equal)) ∷
    (160, layout.Branch (test.Ints comparison.NotEqual)) ∷
    (161, layout.Branch (test.Ints comparison.Less)) ∷
    (162, layout.Branch (test.Ints comparison.GreaterOrEqual)) ∷
    (163, layout.Branch (test.Ints comparison.Greater)) ∷
    (164, layout.Branch (test.Ints comparison.LessOrEqual)) ∷
    (165, layout.Branch (test.Refs identity.Same)) ∷
    (166, layout.Branch (test.Refs identity.Different)) ∷
    (167, layout.Branch (test.Always width.Narrow)) ∷
    []

-- those from 170 on
abbrev pub high_layouts : List (ℕ × Layout)
high_layouts =
    (170, layout.TableSwitch) ∷
    (171, layout.LookupSwitch) ∷
    (178, layout.Named (named.Static field.Get)) ∷
    (179, layout.Named (named.Static field.Put)) ∷
    (180, layout.Named (named.Field field.Get)) ∷
    (181, layout.Named (named.Field field.Put)) ∷
    (182, layout.Named named.InvokeVirtual) ∷
    (183, layout.Named named.InvokeSpecial) ∷
    (184, layout.Named named.InvokeStatic) ∷
    (185, layout.InvokeInterface) ∷
    (187, layout.Named (named.Class class.New)) ∷
    (188, layout.NewArray) ∷
    (189, layout.Named named.NewArray) ∷
    (192, layout.Named (named.Class class.CheckCast)) ∷
    (193, layout.Named (named.Class class.InstanceOf)) ∷
    (196, layout.Wide) ∷
    (198, layout.Branch (test.Null identity.Same)) ∷
    (199, layout.Branch (test.Null identity.Different)) ∷
    (200, layout.Branch (test.Always width.Wide)) ∷
    []

-- what stands after an opcode that has operands
unfoldable pub layout_of : ℕ → Option Layout
layout_of b = if nat_lt b 170 then entry_at low_layouts b else entry_at high_layouts b

-- the types of newarray
abbrev pub primitives : List (ℕ × Primitive)
primitives =
    (5, primitive.Char) ∷
    (8, primitive.Byte) ∷
    (9, primitive.Short) ∷
    (10, primitive.Int) ∷
    (11, primitive.Long) ∷
    []
