use Rattle.std.specs.Prelude.{◌≡◌, ◌≤◌, ℕ, ◌+◌, List, length, map, slice_get, Bool, true, false, Option, Some, is_some}
use Rattle.std.specs.Option.{option_map}
use Rattle.std.specs.List.{All}
use Rattle.model.specs.declared.colours.Cell.{Cell}
use Rattle.model.specs.declared.colours.Cell.TheVariants.{Free, Taken}
use Rattle.model.specs.declared.journals.HeapShape.{HeapShape}
use Rattle.model.specs.Accounts.{Account}
use Rattle.model.specs.Limits.{ShapeFits}
use Rattle.model.specs.Collector.Table.{cell_at}
use Rattle.cells.specs.Objects.{StoredObject, object_if}
use Rattle.join.specs.ReadBack.{birth_of}
use Rattle.instructions.specs.declared.kinds.Kind.{Kind}
use Rattle.instructions.specs.declared.kinds.Kind.TheVariants.{Instance}

-- What is kept true of a heap: its account and its objects speak of the same cells.

abbrev pub is_taken : Cell → Bool
is_taken Free = false
is_taken (Taken birth colour) = true

-- cells from a number on
abbrev pub AllFrom : ℕ → List ℕ → Type 0
AllFrom first cells = All (λ c. first ≤ c) cells

-- an object is where the account has a birth, and nowhere else; the free lists of greater cells have no smaller ones
pub record Agree {K : Type 0} (shape : HeapShape) (a : Account) (objects : List (Option (StoredObject K))) : Type 0
  where
    pub fits : ShapeFits shape.small shape.medium shape.large
    pub count : length a.cells ≡ shape.small + shape.medium + shape.large
    pub taken : map is_taken a.cells ≡ map is_some objects
    pub medium : AllFrom shape.small a.medium
    pub large : AllFrom (shape.small + shape.medium) a.large

-- ---- the two errors that are made before a run

abbrev pub kind_in : {K : Type 0} → List (Option (StoredObject K)) → ℕ → Option K
kind_in objects cell = option_map (λ object. object.kind) (object_if (slice_get objects cell))

-- while a cell has the birth of an error, its object is of the error's kind
abbrev pub ErrorIs : {K : Type 0} → ℕ → ℕ → K → List Cell → List (Option (StoredObject K)) → Type 0
ErrorIs cell birth kind cells objects = birth_of (cell_at cells cell) ≡ birth → kind_in objects cell ≡ Some kind

-- birth 1 is thrown where no cell has room, birth 2 where no frame has; other births have greater numbers
pub record ErrorsAre {K : Type 0} (memory stack : K) (cells : List Cell) (objects : List (Option (StoredObject K)))
    (births : ℕ) : Type 0 where
  pub memory_is : ErrorIs 0 1 memory cells objects
  pub stack_is : ErrorIs 1 2 stack cells objects
  pub least : 3 ≤ births

-- the machine's own class at a place, where so many classes are the program's
abbrev pub own_kind : ℕ → ℕ → Kind
own_kind classes place = Instance (classes + place)

-- both stand in their cells
abbrev pub HoldsErrors : Account → Type 0
HoldsErrors a = (birth_of (cell_at a.cells 0) ≡ 1) × (birth_of (cell_at a.cells 1) ≡ 2)

-- all that is kept true of a heap
pub record IsHeap (shape : HeapShape) (a : Account) (objects : List (Option (StoredObject Kind)))
    (births classes : ℕ) : Type 0 where
  pub agree : Agree shape a objects
  pub errors : ErrorsAre (own_kind classes 16) (own_kind classes 17) a.cells objects births
  pub few : classes ≤ 256
