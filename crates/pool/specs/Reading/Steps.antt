-- Steps of reading, and fields at the front of bytes.
use Rattle.std.specs.Prelude.{◌≡◌, ◌≢◌, ℕ, ℤ, List, [], ◌∷◌, length, take, drop, Result, Ok, Err, IfErr, nat_lt}
use Rattle.std.specs.Prelude.{if◌then◌else◌}
use Rattle.std.specs.Int.{Width, byte_len, from_be_bytes, cast_signed}
use Rattle.model.specs.declared.class_files.FormatFault.{FormatFault}
use Rattle.model.specs.declared.class_files.FormatFault.TheVariants.{Short}
use Rattle.pool.specs.declared.error.ReadError.{ReadError}
use Rattle.pool.specs.declared.error.ReadError.TheVariants as error

infixl 10 ◌>>=◌
abbrev pub ◌>>=◌ : {A B F : Type 0} → Result A F → (A → Result B F) → Result B F
(Ok x) >>= f = f x
(Err e) >>= f = Err e

-- what a function returned, seen by view, is what reading gives, unless memory ran out
abbrev pub Fails : {Y : Type 0} → ReadError → Result Y FormatFault → Type 0
Fails error.Memory read = Unit {0}
Fails (error.Format fault) read = read ≡ Err fault

abbrev pub Gives : {X Y : Type 0} → (X → Y) → Result X ReadError → Result Y FormatFault → Type 0
Gives view (Ok x) read = read ≡ Ok (view x)
Gives view (Err e) read = Fails e read

-- what asks for no memory doesn't run out of it
abbrev pub AsksForNone : {X : Type 0} → Result X ReadError → Type 0
AsksForNone result = IfErr result (λ e. e ≢ error.Memory)

-- a field is a value, and the bytes after it
abbrev pub byte_at : List ℕ → Result (ℕ × List ℕ) FormatFault
byte_at [] = Err Short
byte_at (b ∷ rest) = Ok (b, rest)

abbrev pub number_at : Width → List ℕ → Result (ℕ × List ℕ) FormatFault
number_at w bytes = if nat_lt (length bytes) (byte_len w) then Err Short
    else Ok (from_be_bytes w (take (byte_len w) bytes), drop (byte_len w) bytes)

abbrev pub signed_at : Width → List ℕ → Result (ℤ × List ℕ) FormatFault
signed_at w bytes = number_at w bytes >>= λ n. Ok (cast_signed w n.0, n.1)

abbrev pub taken : ℕ → List ℕ → Result (List ℕ × List ℕ) FormatFault
taken len bytes = if nat_lt (length bytes) len then Err Short else Ok (take len bytes, drop len bytes)
