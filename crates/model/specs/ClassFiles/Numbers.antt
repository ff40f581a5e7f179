-- Numbers in a class file stand with their highest byte first (JVMS 4).
use Rattle.std.specs.Prelude.{ℕ, ℤ, List}
use Rattle.std.specs.Int.{w16, w32, w64, to_be_bytes, cast_unsigned}

abbrev pub u2 : ℕ → List ℕ
u2 n = to_be_bytes w16 n

abbrev pub u4 : ℕ → List ℕ
u4 n = to_be_bytes w32 n

abbrev pub s4 : ℤ → List ℕ
s4 z = to_be_bytes w32 (cast_unsigned w32 z)

abbrev pub s8 : ℤ → List ℕ
s8 z = to_be_bytes w64 (cast_unsigned w64 z)
