-- A table of pcs: the code's quick answer to which of them are named.
use Rattle.std.specs.Prelude.{◌≡◌, ℕ, Bool, false, List, slice_index_or}
use Rattle.model.specs.Texts.Disassembling.{is_named}

-- what the table says of a pc; nothing is marked after its end
abbrev pub is_marked : List Bool → ℕ → Bool
is_marked table pc = slice_index_or table pc false

-- the table marks these pcs and no others
abbrev pub Marks : List Bool → List ℕ → Type 0
Marks table pcs = (pc : ℕ) → is_marked table pc ≡ is_named pcs pc
