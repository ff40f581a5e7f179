use Rattle.std.specs.Prelude.{ℕ, zero, suc, ◌+◌, List, [], ◌∷◌, ◌++◌, map, replicate, slice_set, nat_le, nat_eq, Bool}
use Rattle.std.specs.Prelude.{true, false, ◌||◌, Option, Some, None, is_some, if◌then◌else◌}
use Rattle.model.specs.declared.colours.Cell.{Cell}
use Rattle.model.specs.declared.colours.Cell.TheVariants.{Free, Taken}
use Rattle.model.specs.declared.colours.Colour.{Colour}
use Rattle.model.specs.declared.colours.Colour.TheVariants.{White, Grey, Black}
use Rattle.model.specs.declared.colours.Phase.{Phase}
use Rattle.model.specs.declared.colours.Phase.TheVariants.{Idle}
use Rattle.model.specs.declared.journals.HeapShape.{HeapShape}
use Rattle.model.specs.declared.journals.Outcome.{Outcome}
use Rattle.model.specs.declared.journals.Outcome.TheVariants.{Done, Object, NoRoom, Fault}

-- The account of the heap: which births the cells hold, with their colours, and which cells are free. It knows nothing
-- of what objects contain (Dijkstra et al., CACM 21(11), 1978; the three sizes are this project's profile).

-- the free cells of each size, the next to be given at the front; the grey births, the next to be blackened at the
-- front
pub record Account : Type 0 where
  pub cells : List Cell
  pub small : List ℕ
  pub medium : List ℕ
  pub large : List ℕ
  pub grey : List ℕ
  pub phase : Phase

-- ---- taking a cell

abbrev pub first_cell : List ℕ → Option (ℕ × List ℕ)
first_cell [] = None
first_cell (c ∷ cs) = Some (c, cs)

-- the front cell where the size fits and has one, else what the greater sizes have
abbrev pub or_larger : Bool → (List ℕ → Account) → Option (ℕ × List ℕ) → Option (ℕ × Account) → Option (ℕ × Account)
or_larger true without (Some cell) larger = Some (cell.0, without cell.1)
or_larger true without None larger = larger
or_larger false without cell larger = larger

-- the front cell of the smallest size with a free cell of so many words, and the account without it in its list
abbrev pub take_cell : Account → ℕ → Option (ℕ × Account)
take_cell a words =
    or_larger (nat_le words 4) (λ cs. record a { small = cs }) (first_cell a.small)
    (or_larger (nat_le words 32) (λ cs. record a { medium = cs }) (first_cell a.medium)
    (or_larger (nat_le words 256) (λ cs. record a { large = cs }) (first_cell a.large) None))

-- whether some free cell has so many words
abbrev pub has_room : Account → ℕ → Bool
has_room a words = is_some (take_cell a words)

abbrev pub in_cell : Account → ℕ → Colour → Option (ℕ × Account) → Account
in_cell a birth colour None = a
in_cell a birth colour (Some cell) = record cell.1 { cells = slice_set cell.1.cells cell.0 (Taken birth colour) }

-- a birth comes into the heap
abbrev pub placed : Account → ℕ → ℕ → Colour → Account
placed a birth words colour = in_cell a birth colour (take_cell a words)

-- ---- shading

abbrev pub tint : ℕ → Cell → Cell
tint b Free = Free
tint b (Taken a White) = if nat_eq a b then Taken a Grey else Taken a White
tint b (Taken a Grey) = Taken a Grey
tint b (Taken a Black) = Taken a Black

abbrev pub is_white : ℕ → Cell → Bool
is_white b Free = false
is_white b (Taken a White) = nat_eq a b
is_white b (Taken a Grey) = false
is_white b (Taken a Black) = false

abbrev pub has_white : ℕ → List Cell → Bool
has_white b [] = false
has_white b (cell ∷ cells) = is_white b cell || has_white b cells

-- a white birth turns grey and goes to the end of the grey list; any other is left
unfoldable pub shade : Account → ℕ → Account
shade a b = record a { cells = map (tint b) a.cells; grey = if has_white b a.cells then a.grey ++ b ∷ [] else a.grey }

abbrev pub shade_all : Account → List ℕ → Account
shade_all a [] = a
shade_all a (b ∷ bs) = shade_all (shade a b) bs

-- ---- what a thread's turn does to the account

-- a new object is grey, at the end of the grey list
abbrev pub with_new : Account → ℕ → ℕ → Account
with_new a birth words = let after = placed a birth words Grey in record after { grey = after.grey ++ birth ∷ [] }

abbrev pub new_object : Account → ℕ → Option ℕ → Account
new_object a birth None = a
new_object a birth (Some words) = with_new a birth words

-- the new birth comes first, and then the births that were written are shaded; a fault leaves the account
unfoldable pub after_turn : Account → Outcome → ℕ → Option ℕ → List ℕ → Account
after_turn a Done birth words writes = shade_all a writes
after_turn a Object birth words writes = shade_all (new_object a birth words) writes
after_turn a NoRoom birth words writes = shade_all a writes
after_turn a Fault birth words writes = a

-- ---- the opening account

abbrev pub numbers_up : ℕ → ℕ → List ℕ
numbers_up first zero = []
numbers_up first (suc n) = first ∷ numbers_up (first + 1) n

abbrev pub empty_account : HeapShape → Account
empty_account shape = record {
  cells = replicate (shape.small + shape.medium + shape.large) Free;
  small = numbers_up 0 shape.small;
  medium = numbers_up shape.small shape.medium;
  large = numbers_up (shape.small + shape.medium) shape.large;
  grey = [];
  phase = Idle;
}

-- births 1 and 2 have cells, white
abbrev pub opening_account : HeapShape → Account
opening_account shape = placed (placed (empty_account shape) 1 0 White) 2 0 White
