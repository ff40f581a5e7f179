-- Reading from left to right, with the first fault that is met.
use Rattle.std.specs.Prelude.{◌≡◌, ℕ, ℤ, List, [], ◌∷◌, length, take, drop, Option, Some, None, Result, Ok, Err, nat_lt}
use Rattle.std.specs.Prelude.{◌≢◌, ◌==◌, IfErr, if◌then◌else◌}
use Rattle.std.specs.Int.{Width, byte_len, from_be_bytes, cast_signed}
use Rattle.opcodes.specs.declared.error.OpError.{OpError}
use Rattle.opcodes.specs.declared.error.OpError.TheVariants as error

-- a step, and what comes after it where it doesn't fail
infixl 10 ◌>>=◌
abbrev pub ◌>>=◌ : {A B : Type 0} → Result A OpError → (A → Result B OpError) → Result B OpError
(Ok x) >>= f = f x
(Err e) >>= f = Err e

-- a function failed as reading does, or because memory ran out
abbrev pub Fails : {Y : Type 0} → OpError → Result Y OpError → Type 0
Fails error.Opcode read = read ≡ Err error.Opcode
Fails error.Operand read = read ≡ Err error.Operand
Fails error.Branch read = read ≡ Err error.Branch
Fails error.Switch read = read ≡ Err error.Switch
Fails error.Length read = read ≡ Err error.Length
Fails error.Memory read = Unit {0}

-- what a function returned, seen by view, is what reading gives, unless memory ran out
abbrev pub Gives : {X Y : Type 0} → (X → Y) → Result X OpError → Result Y OpError → Type 0
Gives view (Ok x) read = read ≡ Ok (view x)
Gives view (Err e) read = Fails e read

-- what asks for no memory doesn't run out of it
abbrev pub AsksForNone : {X : Type 0} → Result X OpError → Type 0
AsksForNone result = IfErr result (λ e. e ≢ error.Memory)

-- the entry of a table at a number
abbrev pub entry_at : {A : Type 0} → List (ℕ × A) → ℕ → Option A
entry_at [] n = None
entry_at (e ∷ entries) n = if n == e.0 then Some e.1 else entry_at entries n

-- the first byte, and the bytes after it
abbrev pub byte_at : List ℕ → Result (ℕ × List ℕ) OpError
byte_at [] = Err error.Operand
byte_at (b ∷ rest) = Ok (b, rest)

-- an unsigned number, and the bytes after it
abbrev pub number_at : Width → List ℕ → Result (ℕ × List ℕ) OpError
number_at w bytes = if nat_lt (length bytes) (byte_len w) then Err error.Operand
    else Ok (from_be_bytes w (take (byte_len w) bytes), drop (byte_len w) bytes)

-- a signed number, and the bytes after it
abbrev pub signed_at : Width → List ℕ → Result (ℤ × List ℕ) OpError
signed_at w bytes = number_at w bytes >>= λ n. Ok (cast_signed w n.0, n.1)
