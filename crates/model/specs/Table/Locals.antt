use Rattle.std.specs.Prelude.{ℕ, ℤ, ◌+ℤ◌, [], ◌∷◌, Result, Ok, Err}
use Rattle.std.specs.Int.{w32, int_wrap}
use Rattle.model.specs.declared.values.Kind.TheVariants.{Int as IntKind}
use Rattle.model.specs.declared.values.Value.{Value}
use Rattle.model.specs.declared.values.Value.TheVariants.{Int}
use Rattle.model.specs.declared.turns.Fault.{Fault}
use Rattle.model.specs.declared.turns.Abrupt.{Abrupt}
use Rattle.model.specs.declared.turns.Abrupt.TheVariants.{Fault as Faulted}
use Rattle.model.specs.declared.instructions.FirstLocal.{FirstLocal}
use Rattle.model.specs.declared.instructions.FirstLocal.TheVariants.{Zero, One, Two, Three}
use Rattle.model.specs.declared.instructions.Local.{Local}
use Rattle.model.specs.declared.instructions.Local.TheVariants.{First, Byte, Wide}
use Rattle.model.specs.declared.instructions.Increment.{Increment}
use Rattle.model.specs.declared.instructions.Increment.TheVariants.{Byte as ByByte, Wide as ByWide}
use Rattle.model.specs.declared.instructions.LocalAccess.{LocalAccess}
use Rattle.model.specs.declared.instructions.LocalAccess.TheVariants.{Load, Store, Increment as Incremented}
use Rattle.model.specs.Frames.{Frame, Moved, as_int, replaced_if_room}
use Rattle.model.specs.Locals.{local_at, stored, stored_at}

-- the index of a local, whatever its form
abbrev pub first_index : FirstLocal → ℕ
first_index Zero = 0
first_index One = 1
first_index Two = 2
first_index Three = 3

abbrev pub local_index : Local → ℕ
local_index (First place) = first_index place
local_index (Byte index) = index
local_index (Wide index) = index

abbrev pub increment_index : Increment → ℕ
increment_index (ByByte index amount) = index
increment_index (ByWide index amount) = index

abbrev pub increment_amount : Increment → ℤ
increment_amount (ByByte index amount) = amount
increment_amount (ByWide index amount) = amount

-- what was found is pushed
abbrev pub loaded_on : ℕ → Frame → Result Value Fault → Result Moved Abrupt
loaded_on next f (Err e) = Err (Faulted e)
loaded_on next f (Ok v) = replaced_if_room next f 0 (v ∷ [])

-- the int that was found is put back with an amount more; the sum wraps
abbrev pub incremented_on : ℕ → Frame → ℕ → ℤ → Result ℤ Fault → Result Moved Abrupt
incremented_on next f index amount (Err e) = Err (Faulted e)
incremented_on next f index amount (Ok z) = Ok (stored next f 0 index (Int (int_wrap w32 (z +ℤ amount))))

abbrev pub incremented : ℕ → Increment → Frame → Result Moved Abrupt
incremented next i f = incremented_on next f (increment_index i) (increment_amount i)
    (as_int (local_at IntKind f.locals (increment_index i)))

-- loads, stores and iinc (JVMS 6.5): faults of the operand first, then of the local, then F2
abbrev pub local : ℕ → LocalAccess → Frame → Result Moved Abrupt
local next (Load kind place) f = loaded_on next f (local_at kind f.locals (local_index place))
local next (Store kind place) f = stored_at next kind (local_index place) f
local next (Incremented i) f = incremented next i f
