use Rattle.std.specs.Prelude.{◌≡◌, ◌⊎◌, ℕ, ◌<◌, List, [], ◌∷◌, Some}
use Rattle.model.specs.declared.colours.Colour.{Colour}
use Rattle.model.specs.declared.colours.Colour.TheVariants.{White, Grey, Black}
use Rattle.model.specs.declared.colours.Phase.{Phase}
use Rattle.model.specs.declared.colours.Phase.TheVariants.{Idle, Statics, Frames, Mark, Append}
use Rattle.model.specs.declared.journals.HeapShape.{HeapShape}
use Rattle.model.specs.Accounts.{Account}
use Rattle.model.specs.declared.colours.Cell.TheVariants.{Free, Taken}
use Rattle.model.specs.Worlds.{World}
use Rattle.model.specs.Collector.Places.{Place, root_at, word_at, Reach}
use Rattle.model.specs.Collector.Table.{cell_at, collected}
use Rattle.model.specs.Collector.Invariant.{Scanned, Fronted, IsMark, Unblack, HasKept, NotWhite}

-- What the invariant says of paths (CACM 21(11), 1978).

abbrev pub NotEmpty : List ℕ → Type 0
NotEmpty [] = ⊥
NotEmpty (b ∷ bs) = Unit {0}

-- the cells from which paths are followed: those that aren't white, in Append the grey ones
abbrev pub Starts : Phase → Colour → Type 0
Starts Idle White = ⊥
Starts Idle Grey = Unit {0}
Starts Idle Black = Unit {0}
Starts (Statics s) White = ⊥
Starts (Statics s) Grey = Unit {0}
Starts (Statics s) Black = Unit {0}
Starts (Frames t d j) White = ⊥
Starts (Frames t d j) Grey = Unit {0}
Starts (Frames t d j) Black = Unit {0}
Starts (Mark q) White = ⊥
Starts (Mark q) Grey = Unit {0}
Starts (Mark q) Black = Unit {0}
Starts (Append p) White = ⊥
Starts (Append p) Grey = Unit {0}
Starts (Append p) Black = ⊥

-- the births on paths from roots and from such cells
pub data Traced (w : World) (a : Account) : ℕ → Type 0 where
  from_root : {b : ℕ} (place : Place) → root_at w place ≡ Some b → Traced w a b
  from_cell : {b : ℕ} (c : ℕ) (x : Colour) → cell_at a.cells c ≡ Taken b x → Starts a.phase x → Traced w a b
  over : {b : ℕ} (y k : ℕ) → Traced w a y → word_at w y k ≡ Some b → Traced w a b

-- the three colours:
-- before marking no cell is black, and what was scanned isn't white;
-- in Mark no root is white, no black cell leads to a white one, nor does a word of the front that was looked at, and
-- either the grey list isn't empty or no reachable birth is white; in Append no reachable cell from p on is white, and
-- no cell before p is black; in every phase the births on paths have cells, which in Append from p on aren't white
pub record ThreeColour (w : World) (a : Account) : Type 0 where
  pub scanned : (p : Place) (b : ℕ) → Scanned a.phase p → root_at w p ≡ Some b → NotWhite a.cells b
  pub unblack : (c b : ℕ) → cell_at a.cells c ≡ Taken b Black → Unblack a.phase c → ⊥
  pub marked : (c b k b' : ℕ) → IsMark a.phase → cell_at a.cells c ≡ Taken b Black → word_at w b k ≡ Some b'
      → NotWhite a.cells b'
  pub front : (b k b' : ℕ) → Fronted a.phase a.grey b k → word_at w b k ≡ Some b' → NotWhite a.cells b'
  pub either : IsMark a.phase → NotEmpty a.grey ⊎ ((b : ℕ) → Reach w b → NotWhite a.cells b)
  pub late : (p c b : ℕ) → a.phase ≡ Append p → Reach w b → cell_at a.cells c ≡ Taken b White → c < p
  pub traced : (b : ℕ) → Traced w a b → HasKept a.phase a.cells b

-- what users rely on
pub record KeepsReachable (shape : HeapShape) (w : World) (a : Account) : Type 0 where
  -- a reachable birth has a cell, and no birth has two
  pub has_cell : (b : ℕ) → Reach w b → (c : ℕ) × (x : Colour) × (cell_at a.cells c ≡ Taken b x)
  pub one_cell : (c d b : ℕ) (x y : Colour) → cell_at a.cells c ≡ Taken b x → cell_at a.cells d ≡ Taken b y → c ≡ d
  -- what the collector's next step gives back, no path reaches
  pub given_back : (c b : ℕ) (x : Colour) → cell_at a.cells c ≡ Taken b x → cell_at (collected shape w a).cells c ≡ Free
      → Reach w b → ⊥
