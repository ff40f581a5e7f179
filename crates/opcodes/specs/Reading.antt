-- Reading an instruction from left to right, with the first fault that is met.
use Rattle.std.specs.Prelude.{ℕ, zero, suc, List, [], ◌∷◌, Option, Some, None, Result, Ok, Err}
use Rattle.std.specs.Int.{w8, w16}
use Rattle.model.specs.Bytecode.Opcodes.{Instr}
use Rattle.model.specs.declared.instructions.Width.TheVariants.{Narrow, Wide}
use Rattle.model.specs.declared.instructions.Constant.TheVariants as constant
use Rattle.model.specs.declared.instructions.Local.TheVariants as local
use Rattle.model.specs.declared.instructions.Increment.TheVariants as increment
use Rattle.model.specs.declared.instructions.LocalAccess.{LocalAccess}
use Rattle.model.specs.declared.instructions.LocalAccess.TheVariants as access
use Rattle.model.specs.declared.instructions.Primitive.{Primitive}
use Rattle.model.specs.declared.instructions.ArrayOperation.TheVariants as array
use Rattle.model.specs.declared.instructions.Invocation.TheVariants as invoke
use Rattle.model.specs.declared.instructions.Instruction.TheVariants as instruction
use Rattle.opcodes.specs.declared.error.OpError.{OpError}
use Rattle.opcodes.specs.declared.error.OpError.TheVariants as error
use Rattle.opcodes.specs.declared.layout.Layout.{Layout}
use Rattle.opcodes.specs.declared.layout.Layout.TheVariants as layout
use Rattle.opcodes.specs.declared.layout.Named.{Named}
use Rattle.opcodes.specs.declared.layout.Named.TheVariants as named
use Rattle.opcodes.specs.Reading.Steps.{◌>>=◌, byte_at, number_at, signed_at, entry_at}
use Rattle.opcodes.specs.Reading.Tables.{bare_of, layout_of, primitives}
use Rattle.opcodes.specs.Reading.Switches.{branch_at, table_at, lookup_at}
pub mod Steps
pub mod Tables
pub mod Switches

-- the instruction that takes a pool number so
abbrev pub by_name : Named → ℕ → Instr
by_name named.Int n = instruction.Constant (constant.Int Wide n)
by_name named.Long n = instruction.Constant (constant.Long n)
by_name (named.Static a) n = instruction.Static a n
by_name (named.Field a) n = instruction.Field a n
by_name named.InvokeVirtual n = instruction.Invoke invoke.Virtual n
by_name named.InvokeSpecial n = instruction.Invoke invoke.Special n
by_name named.InvokeStatic n = instruction.Invoke invoke.Static n
by_name named.NewArray n = instruction.Array (array.NewOf n)
by_name (named.Class op) n = instruction.Class op n

-- a local in one byte, and what is added to it
unfoldable pub increment_at : List ℕ → Result (Instr × List ℕ) OpError
increment_at bytes = do
  n ← byte_at bytes
  z ← signed_at w8 n.1
  Ok (instruction.Local (access.Increment (increment.Byte n.0 z.0)), z.1)

-- the last byte of invokeinterface is zero (JVMS 6.5)
abbrev pub ends_with_zero : ℕ → ℕ → ℕ → List ℕ → Result (Instr × List ℕ) OpError
ends_with_zero n count zero rest = Ok (instruction.Invoke (invoke.Interface count) n, rest)
ends_with_zero n count (suc b) rest = Err error.Opcode

-- a pool number, a count and a zero byte
unfoldable pub interface_at : List ℕ → Result (Instr × List ℕ) OpError
interface_at bytes = do
  n ← number_at w16 bytes
  count ← byte_at n.1
  last ← byte_at count.1
  ends_with_zero n.0 count.0 last.0 last.1

-- the instruction on an array of this type, if it is one
abbrev pub new_array : Option Primitive → List ℕ → Result (Instr × List ℕ) OpError
new_array None rest = Err error.Opcode
new_array (Some type) rest = Ok (instruction.Array (array.New type), rest)

-- the number of a type
unfoldable pub new_array_at : List ℕ → Result (Instr × List ℕ) OpError
new_array_at bytes = do
  n ← byte_at bytes
  new_array (entry_at primitives n.0) n.1

-- after wide: two bytes for a local, and for what is added to it
abbrev pub wide_form_at : Option Layout → List ℕ → Result (Instr × List ℕ) OpError
wide_form_at None bytes = Err error.Opcode
wide_form_at (Some layout.Byte) bytes = Err error.Opcode
wide_form_at (Some layout.Short) bytes = Err error.Opcode
wide_form_at (Some layout.NarrowInt) bytes = Err error.Opcode
wide_form_at (Some (layout.Load k)) bytes = do
  n ← number_at w16 bytes
  Ok (instruction.Local (access.Load k (local.Wide n.0)), n.1)
wide_form_at (Some (layout.Store k)) bytes = do
  n ← number_at w16 bytes
  Ok (instruction.Local (access.Store k (local.Wide n.0)), n.1)
wide_form_at (Some layout.Increment) bytes = do
  n ← number_at w16 bytes
  z ← signed_at w16 n.1
  Ok (instruction.Local (access.Increment (increment.Wide n.0 z.0)), z.1)
wide_form_at (Some (layout.Branch t)) bytes = Err error.Opcode
wide_form_at (Some (layout.Named what)) bytes = Err error.Opcode
wide_form_at (Some layout.InvokeInterface) bytes = Err error.Opcode
wide_form_at (Some layout.NewArray) bytes = Err error.Opcode
wide_form_at (Some layout.TableSwitch) bytes = Err error.Opcode
wide_form_at (Some layout.LookupSwitch) bytes = Err error.Opcode
wide_form_at (Some layout.Wide) bytes = Err error.Opcode

-- an opcode, and the wide form of its operands
unfoldable pub wide_at : List ℕ → Result (Instr × List ℕ) OpError
wide_at bytes = do
  b ← byte_at bytes
  wide_form_at (layout_of b.0) b.1

-- an instruction at this pc with operands, whose opcode has been read
unfoldable pub layout_at : ℕ → Layout → List ℕ → Result (Instr × List ℕ) OpError
layout_at pc layout.Byte bytes = do
  z ← signed_at w8 bytes
  Ok (instruction.Constant (constant.Byte z.0), z.1)
layout_at pc layout.Short bytes = do
  z ← signed_at w16 bytes
  Ok (instruction.Constant (constant.Short z.0), z.1)
layout_at pc layout.NarrowInt bytes = do
  n ← byte_at bytes
  Ok (instruction.Constant (constant.Int Narrow n.0), n.1)
layout_at pc (layout.Load k) bytes = do
  n ← byte_at bytes
  Ok (instruction.Local (access.Load k (local.Byte n.0)), n.1)
layout_at pc (layout.Store k) bytes = do
  n ← byte_at bytes
  Ok (instruction.Local (access.Store k (local.Byte n.0)), n.1)
layout_at pc layout.Increment bytes = increment_at bytes
layout_at pc (layout.Branch t) bytes = branch_at pc t bytes
layout_at pc (layout.Named what) bytes = do
  n ← number_at w16 bytes
  Ok (by_name what n.0, n.1)
layout_at pc layout.InvokeInterface bytes = interface_at bytes
layout_at pc layout.NewArray bytes = new_array_at bytes
layout_at pc layout.TableSwitch bytes = table_at pc bytes
layout_at pc layout.LookupSwitch bytes = lookup_at pc bytes
layout_at pc layout.Wide bytes = wide_at bytes

-- an instruction whose opcode has this layout, if it has one
abbrev pub by_layout : ℕ → Option Layout → List ℕ → Result (Instr × List ℕ) OpError
by_layout pc None bytes = Err error.Opcode
by_layout pc (Some l) bytes = layout_at pc l bytes

-- an instruction whose opcode stands for it alone, or has a layout
abbrev pub by_opcode : ℕ → Option Instr → Option Layout → List ℕ → Result (Instr × List ℕ) OpError
by_opcode pc None l bytes = by_layout pc l bytes
by_opcode pc (Some i) l bytes = Ok (i, bytes)

-- an instruction at this pc, and the bytes after it
unfoldable pub instruction_at : ℕ → List ℕ → Result (Instr × List ℕ) OpError
instruction_at pc bytes = do
  b ← byte_at bytes
  by_opcode pc (bare_of b.0) (layout_of b.0) b.1
