use Rattle.std.proofs.Common.{◌≡◌, ℕ, ℤ, [], ◌∷◌}
use Rattle.model.specs.declared.instructions.Constant.{Constant}
use Rattle.model.specs.declared.instructions.Constant.TheVariants.{Null, SmallInt as SmallIntOf}
use Rattle.model.specs.declared.instructions.Constant.TheVariants.{SmallLong as SmallLongOf, Byte, Short, Int as IntOf}
use Rattle.model.specs.declared.instructions.Constant.TheVariants.{Long as LongOf}
use Rattle.model.specs.declared.instructions.Local.TheVariants.{Byte}
use Rattle.model.specs.declared.values.Value.TheVariants.{Int, Long}
use Rattle.model.specs.Frames.{Frame}
use Rattle.model.specs.Table.Constants.{constant_value, constant}
use Rattle.join.specs.Naming.{Naming, named_frame, named_result}
use Rattle.join.proofs.Naming.{if_room_named}

-- constants come to the same under a naming: none is a birth

module _ (h : Naming) where
  pub constant_named : (next : ℕ) (c : Constant ℤ ℤ) (f : Frame) → constant next c (named_frame h f)
      ≡ named_result h (constant next c f)
  constant_named next Null f = if_room_named h next f 0 (constant_value Null ∷ [])
  constant_named next (SmallIntOf n) f = if_room_named h next f 0 (constant_value (SmallIntOf n) ∷ [])
  constant_named next (SmallLongOf n) f = if_room_named h next f 0 (constant_value (SmallLongOf n) ∷ [])
  constant_named next (Byte z) f = if_room_named h next f 0 (Int z ∷ [])
  constant_named next (Short z) f = if_room_named h next f 0 (Int z ∷ [])
  constant_named next (IntOf width z) f = if_room_named h next f 0 (Int z ∷ [])
  constant_named next (LongOf z) f = if_room_named h next f 0 (Long z ∷ [])
