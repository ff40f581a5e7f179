-- The units of an operator's operands.
use Rattle.std.specs.Prelude.{ℕ}
use Rattle.model.specs.declared.instructions.Operator.{Operator}
use Rattle.model.specs.declared.instructions.Operator.TheVariants.{Shl, Shr, Ushr}

-- how many units the two operands of an operator on longs take on a stack: a shift's count is an int
abbrev pub long_units : Operator → ℕ
long_units Shl = 3
long_units Shr = 3
long_units Ushr = 3
long_units _ = 4
