use Rattle.std.specs.Prelude.{◌≡◌, ℕ, ◌⊎◌, List, [], ◌∷◌, ◌++◌, All, length, codes}
use Rattle.std.specs.Fmt.{decimal}
use Rattle.model.specs.declared.journals.HeapShape.{HeapShape}
use Rattle.model.specs.declared.journals.Limits.{Limits}
use Rattle.model.specs.declared.journals.Outcome.{Outcome}
use Rattle.model.specs.declared.journals.Outcome.TheVariants.{Done, Object, NoRoom, Fault}
use Rattle.model.specs.declared.journals.Row.{Row}
use Rattle.model.specs.declared.turns.Actor.{Actor}
use Rattle.model.specs.declared.turns.Actor.TheVariants.{Thread, Collector}
use Rattle.model.specs.Journals.{JournalValue}

-- Journals as text. Each line ends in a newline, and one space stands between two words.

-- d, o, n or f
abbrev pub outcome_letter : Outcome → ℕ
outcome_letter Done = 100
outcome_letter Object = 111
outcome_letter NoRoom = 110
outcome_letter Fault = 102

-- a thread's number, or c for the collector
abbrev pub actor_word : Actor → List ℕ
actor_word (Thread t) = decimal t
actor_word Collector = 99 ∷ []

-- a number and the byte after it: a space (32) or a newline (10)
abbrev pub number_text : ℕ → ℕ → List ℕ
number_text n following = decimal n ++ following ∷ []

-- ---- the head's lines

abbrev pub heap_line : HeapShape → List ℕ
heap_line shape = codes "heap " ++ number_text shape.small 32 ++ number_text shape.medium 32
    ++ number_text shape.large 10

abbrev pub limits_line : Limits → List ℕ
limits_line limits = codes "limits " ++ number_text limits.steps 32 ++ number_text limits.output 10

abbrev pub workers_line : ℕ → List ℕ
workers_line workers = codes "workers " ++ number_text workers 10

-- ---- rows

-- a row's actor and outcome
abbrev pub turn_text : Row → List ℕ
turn_text row = actor_word row.actor ++ 32 ∷ outcome_letter row.outcome ∷ []

-- version 2 tells the worker
abbrev pub row_line : Row → List ℕ
row_line row = turn_text row ++ 32 ∷ number_text row.worker 10

-- version 1 doesn't
abbrev pub row_line_1 : Row → List ℕ
row_line_1 row = turn_text row ++ 10 ∷ []

abbrev pub lines_of_rows : (Row → List ℕ) → List Row → List ℕ
lines_of_rows line [] = []
lines_of_rows line (row ∷ rows) = line row ++ lines_of_rows line rows

-- the number of rows ends a text
abbrev pub end_line : ℕ → List ℕ
end_line rows = codes "end " ++ number_text rows 10

-- ---- whole texts

-- a journal's text of version 2, the one that is written
unfoldable pub journal_text : JournalValue → List ℕ
journal_text journal =
    codes "JVMJ 2\n" ++ heap_line journal.shape ++ limits_line journal.limits ++ workers_line journal.workers
    ++ lines_of_rows row_line journal.rows ++ end_line (length journal.rows)

-- its text of version 1, where it has one
unfoldable pub journal_text_1 : JournalValue → List ℕ
journal_text_1 journal =
    codes "JVMJ 1\n" ++ heap_line journal.shape ++ limits_line journal.limits
    ++ lines_of_rows row_line_1 journal.rows ++ end_line (length journal.rows)

-- version 1 has one worker, number 0
pub record OneWorker (journal : JournalValue) : Type 0 where
  pub one : journal.workers ≡ 1
  pub first : All (λ (row : Row). row.worker ≡ 0) journal.rows

-- a text, of either version, is that of a journal
abbrev pub IsTextOf : List ℕ → JournalValue → Type 0
IsTextOf text journal = (text ≡ journal_text journal) ⊎ ((text ≡ journal_text_1 journal) × OneWorker journal)
