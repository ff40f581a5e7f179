-- Reading one after another.
use Rattle.std.specs.Prelude.{ℕ, zero, suc, List, [], ◌∷◌, Ok}
use Rattle.std.specs.Int.{w16}
use Rattle.pool.specs.Reading.Steps.{◌>>=◌, number_at}
use Rattle.classfile.specs.Reading.Attributes.{Reads}

unfoldable pub repeated : {A : Type 0} → (List ℕ → Reads A) → ℕ → List ℕ → Reads (List A)
repeated read zero bytes = Ok ([], bytes)
repeated read (suc n) bytes = do
  first ← read bytes
  others ← repeated read n first.1
  Ok (first.0 ∷ others.0, others.1)

-- after their count
unfoldable pub list_from : {A : Type 0} → (List ℕ → Reads A) → List ℕ → Reads (List A)
list_from read bytes = number_at w16 bytes >>= λ count. repeated read count.0 count.1
