use Rattle.std.specs.Prelude.{ℕ, ℤ, pos, negsuc, [], ◌∷◌, None, Result}
use Rattle.model.specs.declared.instructions.Constant.{Constant}
use Rattle.model.specs.declared.instructions.Constant.TheVariants.{Null, SmallInt as SmallIntOf}
use Rattle.model.specs.declared.instructions.Constant.TheVariants.{SmallLong as SmallLongOf, Byte, Short, Int as IntOf}
use Rattle.model.specs.declared.instructions.Constant.TheVariants.{Long as LongOf}
use Rattle.model.specs.declared.instructions.SmallInt.{SmallInt}
use Rattle.model.specs.declared.instructions.SmallInt.TheVariants.{MinusOne, Zero, One, Two, Three, Four, Five}
use Rattle.model.specs.declared.instructions.SmallLong.{SmallLong}
use Rattle.model.specs.declared.instructions.SmallLong.TheVariants.{Zero as LongZero, One as LongOne}
use Rattle.model.specs.declared.values.Value.{Value}
use Rattle.model.specs.declared.values.Value.TheVariants.{Int, Long, Ref}
use Rattle.model.specs.declared.turns.Abrupt.{Abrupt}
use Rattle.model.specs.Frames.{Frame, Moved, replaced_if_room}

abbrev pub small_int : SmallInt → ℤ
small_int MinusOne = negsuc 0
small_int Zero = pos 0
small_int One = pos 1
small_int Two = pos 2
small_int Three = pos 3
small_int Four = pos 4
small_int Five = pos 5

abbrev pub small_long : SmallLong → ℤ
small_long LongZero = pos 0
small_long LongOne = pos 1

-- what an instruction of constants pushes
abbrev pub constant_value : Constant ℤ ℤ → Value
constant_value Null = Ref None
constant_value (SmallIntOf n) = Int (small_int n)
constant_value (SmallLongOf n) = Long (small_long n)
constant_value (Byte z) = Int z
constant_value (Short z) = Int z
constant_value (IntOf width z) = Int z
constant_value (LongOf z) = Long z

-- aconst_null, iconst, lconst, bipush, sipush, ldc, ldc_w, ldc2_w (JVMS 6.5): the value, or F2
abbrev pub constant : ℕ → Constant ℤ ℤ → Frame → Result Moved Abrupt
constant next c f = replaced_if_room next f 0 (constant_value c ∷ [])
