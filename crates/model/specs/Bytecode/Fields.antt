-- The numbers after an opcode, highest byte first (JVMS 6.1).
use Rattle.std.specs.Prelude.{ℕ, ℤ, pos, ◌-ℤ◌, ◌-◌, ◌%◌, List, replicate}
use Rattle.std.specs.Int.{Width, w16, cast_unsigned, to_be_bytes}

-- an unsigned number in two bytes
unfoldable pub u2 : ℕ → List ℕ
u2 n = to_be_bytes w16 n

-- a signed number in as many bytes as the width has
unfoldable pub signed : Width → ℤ → List ℕ
signed w z = to_be_bytes w (cast_unsigned w z)

-- a branch names its target by the way from the branch's own pc
abbrev pub offset : ℕ → ℕ → ℤ
offset pc target = pos target -ℤ pos pc

-- zero bytes after the opcode of a switch at this pc, up to a multiple of four from the method's start
abbrev pub pad : ℕ → List ℕ
pad pc = replicate (3 - pc % 4) 0
