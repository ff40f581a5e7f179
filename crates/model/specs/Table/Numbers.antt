use Rattle.std.specs.Prelude.{ℕ, ℤ, [], ◌∷◌, List, Option, Some, None, Result, Ok, Err}
use Rattle.model.specs.declared.instructions.NumberKind.{NumberKind}
use Rattle.model.specs.declared.instructions.NumberKind.TheVariants.{Int as Ints, Long as Longs}
use Rattle.model.specs.declared.instructions.Operator.{Operator}
use Rattle.model.specs.declared.instructions.Operator.TheVariants.{Add, Sub, Mul, Div, Rem, Shl, Shr, Ushr, And, Or}
use Rattle.model.specs.declared.instructions.Operator.TheVariants.{Xor}
use Rattle.model.specs.declared.instructions.Conversion.{Conversion}
use Rattle.model.specs.declared.instructions.Conversion.TheVariants.{IntToLong, LongToInt, IntToByte, IntToChar}
use Rattle.model.specs.declared.instructions.Conversion.TheVariants.{IntToShort}
use Rattle.model.specs.declared.instructions.NumberOperation.{NumberOperation}
use Rattle.model.specs.declared.instructions.NumberOperation.TheVariants.{Binary, Negate, Convert, CompareLongs}
use Rattle.model.specs.declared.values.Value.{Value}
use Rattle.model.specs.declared.values.Value.TheVariants.{Int, Long}
use Rattle.model.specs.declared.turns.Fault.{Fault}
use Rattle.model.specs.declared.turns.Exception.TheVariants.{Arithmetic}
use Rattle.model.specs.declared.turns.Abrupt.{Abrupt}
use Rattle.model.specs.declared.turns.Abrupt.TheVariants.{Fault as Faulted, Throw}
use Rattle.model.specs.Arithmetic.{width_of, operator_result, negation, conversion_result, order_of}
use Rattle.model.specs.Frames.{Frame, Moved, int_on, long_on, two_ints_on, two_longs_on, count_and_long_on, replaced}
use Rattle.model.specs.Frames.{replaced_if_room}

-- a number as a value of its kind
abbrev pub number_value : NumberKind → ℤ → Value
number_value Ints z = Int z
number_value Longs z = Long z

-- the operands of an operator, the right one first: two of one kind, but an int as the count of a shift
abbrev pub operands_of : NumberKind → Operator → List Value → Result (ℤ × ℤ) Fault
operands_of Ints op stack = two_ints_on stack
operands_of Longs Shl stack = count_and_long_on stack
operands_of Longs Shr stack = count_and_long_on stack
operands_of Longs Ushr stack = count_and_long_on stack
operands_of Longs Add stack = two_longs_on stack
operands_of Longs Sub stack = two_longs_on stack
operands_of Longs Mul stack = two_longs_on stack
operands_of Longs Div stack = two_longs_on stack
operands_of Longs Rem stack = two_longs_on stack
operands_of Longs And stack = two_longs_on stack
operands_of Longs Or stack = two_longs_on stack
operands_of Longs Xor stack = two_longs_on stack

abbrev pub operand_of : NumberKind → List Value → Result ℤ Fault
operand_of Ints stack = int_on stack
operand_of Longs stack = long_on stack

-- a result in place of two operands; none is a division by zero
abbrev pub operated : ℕ → Frame → NumberKind → Option ℤ → Result Moved Abrupt
operated next f kind (Some z) = Ok (replaced next f 2 (number_value kind z ∷ []))
operated next f kind None = Err (Throw Arithmetic)

abbrev pub binary_on : ℕ → Frame → NumberKind → Operator → Result (ℤ × ℤ) Fault → Result Moved Abrupt
binary_on next f kind op (Err e) = Err (Faulted e)
binary_on next f kind op (Ok operands) = operated next f kind (operator_result (width_of kind) op operands.1 operands.0)

abbrev pub negated_on : ℕ → Frame → NumberKind → Result ℤ Fault → Result Moved Abrupt
negated_on next f kind (Err e) = Err (Faulted e)
negated_on next f kind (Ok z) = Ok (replaced next f 1 (number_value kind (negation (width_of kind) z) ∷ []))

-- the kinds from which and to which a conversion goes
abbrev pub source_kind : Conversion → NumberKind
source_kind IntToLong = Ints
source_kind LongToInt = Longs
source_kind IntToByte = Ints
source_kind IntToChar = Ints
source_kind IntToShort = Ints

abbrev pub target_kind : Conversion → NumberKind
target_kind IntToLong = Longs
target_kind LongToInt = Ints
target_kind IntToByte = Ints
target_kind IntToChar = Ints
target_kind IntToShort = Ints

abbrev pub converted_on : ℕ → Frame → Conversion → Result ℤ Fault → Result Moved Abrupt
converted_on next f c (Err e) = Err (Faulted e)
converted_on next f c (Ok z) = replaced_if_room next f 1 (number_value (target_kind c) (conversion_result c z) ∷ [])

abbrev pub compared_on : ℕ → Frame → Result (ℤ × ℤ) Fault → Result Moved Abrupt
compared_on next f (Err e) = Err (Faulted e)
compared_on next f (Ok operands) = Ok (replaced next f 2 (Int (order_of operands.1 operands.0) ∷ []))

-- the instructions on numbers (JVMS 6.5): faults of the operands first, then a division by zero, then F2
abbrev pub number : ℕ → NumberOperation → Frame → Result Moved Abrupt
number next (Binary kind op) f = binary_on next f kind op (operands_of kind op f.stack)
number next (Negate kind) f = negated_on next f kind (operand_of kind f.stack)
number next (Convert c) f = converted_on next f c (operand_of (source_kind c) f.stack)
number next CompareLongs f = compared_on next f (two_longs_on f.stack)
