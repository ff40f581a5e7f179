use Rattle.std.specs.Prelude.{◌≡◌, ◌⊎◌, ℕ, ◌+◌, ◌<◌, ◌≤◌, List, [], ◌∷◌, length, Some}
use Rattle.model.specs.declared.colours.Colour.{Colour}
use Rattle.model.specs.declared.colours.Colour.TheVariants.{White, Grey, Black}
use Rattle.model.specs.declared.colours.Phase.{Phase}
use Rattle.model.specs.declared.colours.Phase.TheVariants.{Idle, Statics, Frames, Mark, Append}
use Rattle.model.specs.declared.journals.HeapShape.{HeapShape}
use Rattle.model.specs.Accounts.{Account}
use Rattle.model.specs.declared.colours.Cell.{Cell}
use Rattle.model.specs.declared.colours.Cell.TheVariants.{Free, Taken}
use Rattle.model.specs.Worlds.{World}
use Rattle.model.specs.Collector.Places.{Place, root_at, word_at}
use Rattle.model.specs.Collector.Places.Place.{MemoryError, StackError, Slot, FrameEntry, MethodMonitor}
use Rattle.model.specs.Collector.Table.{cell_at}

-- The invariant of three colours (CACM 21(11), 1978), with no path in it: it speaks of cells that are kept, garbage
-- too, and of single edges. What holds of reachable births follows.

abbrev pub In : ℕ → List ℕ → Type 0
In b [] = ⊥
In b (x ∷ xs) = (b ≡ x) ⊎ In b xs

abbrev pub Distinct : List ℕ → Type 0
Distinct [] = Unit {0}
Distinct (x ∷ xs) = (In x xs → ⊥) × Distinct xs

-- a cell that this cycle's appending leaves: elsewhere any, in Append one that it has passed or that isn't white
abbrev pub Kept : Phase → ℕ → Colour → Type 0
Kept Idle c colour = Unit {0}
Kept (Statics s) c colour = Unit {0}
Kept (Frames t d j) c colour = Unit {0}
Kept (Mark q) c colour = Unit {0}
Kept (Append p) c White = c < p
Kept (Append p) c Grey = Unit {0}
Kept (Append p) c Black = Unit {0}

-- the roots at which the collector has looked: in Frames those of the threads before t, of the frames before d, and of
-- frame d the entries before j
abbrev pub Scanned : Phase → Place → Type 0
Scanned Idle place = ⊥
Scanned (Statics s) MemoryError = Unit {0}
Scanned (Statics s) StackError = Unit {0}
Scanned (Statics s) (Slot i) = i < s
Scanned (Statics s) (FrameEntry t d j) = ⊥
Scanned (Statics s) (MethodMonitor t d) = ⊥
Scanned (Frames t d j) MemoryError = Unit {0}
Scanned (Frames t d j) StackError = Unit {0}
Scanned (Frames t d j) (Slot i) = Unit {0}
Scanned (Frames t d j) (FrameEntry u e i) = (u < t) ⊎ (u ≡ t) × (e < d) ⊎ (u ≡ t) × (e ≡ d) × (i < j)
Scanned (Frames t d j) (MethodMonitor u e) = (u < t) ⊎ (u ≡ t) × (e < d)
Scanned (Mark q) place = Unit {0}
Scanned (Append p) place = ⊥

-- the cells that hold no black birth
abbrev pub Unblack : Phase → ℕ → Type 0
Unblack Idle c = Unit {0}
Unblack (Statics s) c = Unit {0}
Unblack (Frames t d j) c = Unit {0}
Unblack (Mark q) c = ⊥
Unblack (Append p) c = c < p

-- the words of the front grey birth at which the collector has looked
abbrev pub Fronted : Phase → List ℕ → ℕ → ℕ → Type 0
Fronted (Mark q) [] b k = ⊥
Fronted (Mark q) (x ∷ xs) b k = (b ≡ x) × (k < q)
Fronted Idle grey b k = ⊥
Fronted (Statics s) grey b k = ⊥
Fronted (Frames t d j) grey b k = ⊥
Fronted (Append p) grey b k = ⊥

abbrev pub IsMark : Phase → Type 0
IsMark Idle = ⊥
IsMark (Statics s) = ⊥
IsMark (Frames t d j) = ⊥
IsMark (Mark q) = Unit {0}
IsMark (Append p) = ⊥

-- at a word past the first the grey list isn't empty
abbrev pub Begun : Phase → List ℕ → Type 0
Begun (Mark q) [] = q ≡ 0
Begun (Mark q) (x ∷ xs) = Unit {0}
Begun Idle grey = Unit {0}
Begun (Statics s) grey = Unit {0}
Begun (Frames t d j) grey = Unit {0}
Begun (Append p) grey = Unit {0}

-- a birth that has a cell which is kept
pub record HasKept (phase : Phase) (cells : List Cell) (b : ℕ) : Type 0 where
  pub cell : ℕ
  pub colour : Colour
  pub held : cell_at cells cell ≡ Taken b colour
  pub kept : Kept phase cell colour

pub record NotWhite (cells : List Cell) (b : ℕ) : Type 0 where
  pub never : (c : ℕ) → cell_at cells c ≡ Taken b White → ⊥

-- what a list of free cells holds: the free cells from one number on and below another, each once
pub record Spare (cells : List Cell) (first past : ℕ) (free : List ℕ) : Type 0 where
  pub unused : (c : ℕ) → In c free → cell_at cells c ≡ Free
  pub fits : (c : ℕ) → In c free → (first ≤ c) × (c < past)
  pub listed : (c : ℕ) → first ≤ c → c < past → cell_at cells c ≡ Free → In c free
  pub once : Distinct free

-- what holds of an account without colours and phase, n being the next birth: a birth has one cell, and was made; the
-- grey births are listed, each once; the free lists hold the free cells of their size
pub record Tidy (shape : HeapShape) (n : ℕ) (a : Account) : Type 0 where
  pub sized : length a.cells ≡ shape.small + shape.medium + shape.large
  pub one : (c d b : ℕ) (x y : Colour) → cell_at a.cells c ≡ Taken b x → cell_at a.cells d ≡ Taken b y → c ≡ d
  pub some : (c : ℕ) (x : Colour) → cell_at a.cells c ≡ Taken 0 x → ⊥
  pub born : (c b : ℕ) (x : Colour) → cell_at a.cells c ≡ Taken b x → b < n
  pub listed : (b c : ℕ) → cell_at a.cells c ≡ Taken b Grey → In b a.grey
  pub only_grey : (b : ℕ) → In b a.grey → (c : ℕ) × (cell_at a.cells c ≡ Taken b Grey)
  pub once : Distinct a.grey
  pub small : Spare a.cells 0 shape.small a.small
  pub medium : Spare a.cells shape.small (shape.small + shape.medium) a.medium
  pub large : Spare a.cells (shape.small + shape.medium) (shape.small + shape.medium + shape.large) a.large

-- the invariant: roots, and words of kept cells, lead to births with kept cells; what the collector has looked at isn't
-- white; no black cell leads to a white one
pub record Invariant (shape : HeapShape) (w : World) (n : ℕ) (a : Account) : Type 0 where
  pub tidy : Tidy shape n a
  pub roots : (p : Place) (b : ℕ) → root_at w p ≡ Some b → HasKept a.phase a.cells b
  pub words : (c b : ℕ) (x : Colour) (k b' : ℕ) → cell_at a.cells c ≡ Taken b x → Kept a.phase c x → word_at w b k
      ≡ Some b' → HasKept a.phase a.cells b'
  pub scanned : (p : Place) (b : ℕ) → Scanned a.phase p → root_at w p ≡ Some b → NotWhite a.cells b
  pub unblack : (c b : ℕ) → cell_at a.cells c ≡ Taken b Black → Unblack a.phase c → ⊥
  pub marked : (c b k b' : ℕ) → IsMark a.phase → cell_at a.cells c ≡ Taken b Black → word_at w b k ≡ Some b'
      → NotWhite a.cells b'
  pub front : (b k b' : ℕ) → Fronted a.phase a.grey b k → word_at w b k ≡ Some b' → NotWhite a.cells b'
  pub begun : Begun a.phase a.grey
