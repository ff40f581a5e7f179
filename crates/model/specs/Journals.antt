use Rattle.std.specs.Prelude.{ℕ, ◌<◌, ◌≤◌, List, [], ◌∷◌, ◌++◌, All, replicate}
use Rattle.std.specs.List.{repeat}
use Rattle.model.specs.declared.journals.HeapShape.{HeapShape}
use Rattle.model.specs.declared.journals.Limits.{Limits}
use Rattle.model.specs.declared.journals.Row.{Row}
use Rattle.model.specs.Limits.{ShapeFits, LimitsFit}

-- the heap's shape, the limits, how many workers there are, and the turns that were made
pub record JournalValue : Type 0 where
  pub shape : HeapShape
  pub limits : Limits
  pub workers : ℕ
  pub rows : List Row

-- a journal that has no row
abbrev pub blank : HeapShape → Limits → ℕ → JournalValue
blank shape limits workers = record { shape = shape; limits = limits; workers = workers; rows = [] }

abbrev pub with_row : JournalValue → Row → JournalValue
with_row journal row = record journal { rows = journal.rows ++ row ∷ [] }

abbrev pub with_rows : JournalValue → List Row → JournalValue
with_rows journal rows = record journal { rows = journal.rows ++ rows }

-- the rows of so many rounds, each one row, and then another so many times
abbrev pub rows_of_rounds : Row → Row → ℕ → ℕ → List Row
rows_of_rounds first second times rounds = repeat rounds (first ∷ replicate times second)

-- what holds of the head of every journal
pub record HeadFits (shape : HeapShape) (limits : Limits) (workers : ℕ) : Type 0 where
  pub cells : ShapeFits shape.small shape.medium shape.large
  pub bounds : LimitsFit limits.steps limits.output
  pub one : 1 ≤ workers
  pub nine : workers ≤ 9

abbrev pub AreOfWorkers : ℕ → List Row → Type 0
AreOfWorkers workers rows = All (λ (row : Row). row.worker < workers) rows
