-- Reading branches and switches, with the first fault that is met.
use Rattle.std.specs.Prelude.{ℕ, zero, suc, ◌+◌, ◌-◌, ◌%◌, ℤ, pos, negsuc, ◌+ℤ◌, ◌-ℤ◌, int_lt, min, Bool, true, List}
use Rattle.std.specs.Prelude.{[], ◌∷◌, Option, Some, None, Result, Ok, Err, if◌then◌else◌}
use Rattle.std.specs.Int.{w32}
use Rattle.std.specs.Int.RustNames.{unsigned_abs}
use Rattle.model.specs.Bytecode.Opcodes.{Instr}
use Rattle.model.specs.Bytecode.Operands.{branch_width}
use Rattle.model.specs.declared.instructions.Test.{Test}
use Rattle.model.specs.declared.instructions.Instruction.TheVariants as instruction
use Rattle.opcodes.specs.declared.error.OpError.{OpError}
use Rattle.opcodes.specs.declared.error.OpError.TheVariants as error
use Rattle.opcodes.specs.Reading.Steps.{◌>>=◌, signed_at}

-- 65535 is no pc of an instruction: it stands for all targets out of range
abbrev pub pc_of : ℤ → ℕ
pc_of (pos n) = min n 65535
pc_of (negsuc n) = 65535

-- where an offset leads from this pc
abbrev pub landing : ℕ → ℤ → ℕ
landing pc z = pc_of (pos pc +ℤ z)

-- an offset of two bytes or four
unfoldable pub branch_at : ℕ → Test → List ℕ → Result (Instr × List ℕ) OpError
branch_at pc t bytes = do
  z ← signed_at (branch_width t) bytes
  Ok (instruction.Branch t (landing pc z.0), z.1)

-- so many zero bytes
unfoldable pub pad_at : ℕ → List ℕ → Result (List ℕ) OpError
pad_at zero bytes = Ok bytes
pad_at (suc n) [] = Err error.Operand
pad_at (suc n) (zero ∷ rest) = pad_at n rest
pad_at (suc n) (suc b ∷ rest) = Err error.Switch

-- so many offsets
unfoldable pub targets_at : ℕ → ℕ → List ℕ → Result (List ℕ × List ℕ) OpError
targets_at pc zero bytes = Ok ([], bytes)
targets_at pc (suc n) bytes = do
  z ← signed_at w32 bytes
  others ← targets_at pc n z.1
  Ok (landing pc z.0 ∷ others.0, others.1)

-- how many ints there are from low to high
abbrev pub table_len : ℤ → ℤ → ℕ
table_len low high = unsigned_abs (high -ℤ low) + 1

-- pad, default, low, high, and a target for each int between
unfoldable pub table_at : ℕ → List ℕ → Result (Instr × List ℕ) OpError
table_at pc bytes = do
  rest ← pad_at (3 - pc % 4) bytes
  default ← signed_at w32 rest
  low ← signed_at w32 default.1
  high ← signed_at w32 low.1
  if int_lt high.0 low.0 then Err error.Switch else (targets_at pc (table_len low.0 high.0) high.1
      >>= λ targets. Ok (
        instruction.TableSwitch (record {
          low = low.0;
          targets = targets.0;
          default = landing pc default.0;
        }),
        targets.1,
      ))

-- a key may follow another
abbrev pub rises : Option ℤ → ℤ → Bool
rises None key = true
rises (Some before) key = int_lt before key

-- so many pairs, whose keys rise from the one before
unfoldable pub pairs_at : ℕ → Option ℤ → ℕ → List ℕ → Result (List (ℤ × ℕ) × List ℕ) OpError
pairs_at pc before zero bytes = Ok ([], bytes)
pairs_at pc before (suc n) bytes = do
  key ← signed_at w32 bytes
  if rises before key.0 then (signed_at w32 key.1 >>= λ z. pairs_at pc (Some key.0) n z.1
      >>= λ others. Ok ((key.0, landing pc z.0) ∷ others.0, others.1)) else Err error.Switch

-- pad, default, a count that isn't negative, and as many pairs
unfoldable pub lookup_at : ℕ → List ℕ → Result (Instr × List ℕ) OpError
lookup_at pc bytes = do
  rest ← pad_at (3 - pc % 4) bytes
  default ← signed_at w32 rest
  count ← signed_at w32 default.1
  if int_lt count.0 (pos 0) then Err error.Switch else (pairs_at pc None (unsigned_abs count.0) count.1
      >>= λ pairs. Ok (instruction.LookupSwitch (record { pairs = pairs.0; default = landing pc default.0 }), pairs.1))
