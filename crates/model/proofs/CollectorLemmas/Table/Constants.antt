use Rattle.std.proofs.Common.{◌≡◌, ℕ, ℤ, [], ◌∷◌, None, refl}
use Rattle.model.specs.declared.instructions.Constant.{Constant}
use Rattle.model.specs.declared.instructions.Constant.TheVariants.{Null, SmallInt, SmallLong, Byte, Short, Int, Long}
use Rattle.model.specs.Frames.{Frame}
use Rattle.model.specs.Worlds.{World}
use Rattle.model.specs.Table.Constants.{constant, constant_value}
use Rattle.model.specs.Collector.Places.{ref_of}
use Rattle.model.specs.Collector.Moves.{ResultMoves}
use Rattle.model.proofs.CollectorLemmas.Stepping.{if_room_lawful}

-- a constant is no birth
constant_ref : (c : Constant ℤ ℤ) → ref_of (constant_value c) ≡ None
constant_ref Null = refl
constant_ref (SmallInt n) = refl
constant_ref (SmallLong n) = refl
constant_ref (Byte z) = refl
constant_ref (Short z) = refl
constant_ref (Int width z) = refl
constant_ref (Long z) = refl

pub constant_lawful : (w : World) (next : ℕ) (c : Constant ℤ ℤ) (f : Frame) → ResultMoves w f (constant next c f)
constant_lawful w next c f = if_room_lawful w next f 0 (constant_value c ∷ [])
    (λ b e. (let k = constant_ref c in absurd (cc)), tt)
