use Rattle.std.specs.Prelude.{◌≡◌, ℕ, Bool, true, ◌^◌, ◌<◌, ◌≤◌, ◌&&◌, ◌==◌, nat_lt, ⊤, List, [], ◌∷◌, ◌++◌, All, codes}
use Rattle.std.specs.Prelude.{drop, take, length, decimal, Option, Some, None, option_map, option_and_then, MatchOption}
use Rattle.std.specs.Prelude.{if◌then◌else◌}
use Rattle.std.specs.Borrow.{Bor}
use Rattle.std.specs.List.{position_or_len, starts_with}
use Rattle.std.specs.Str.{bytes_eq}
use Rattle.std.specs.Str.Parse.{digits_value}
use Rattle.model.specs.declared.journals.HeapShape.{HeapShape}
use Rattle.model.specs.declared.journals.Limits.{Limits}
use Rattle.model.specs.declared.journals.Outcome.{Outcome}
use Rattle.model.specs.declared.journals.Outcome.TheVariants.{Done, Object, NoRoom, Fault}
use Rattle.model.specs.declared.journals.Row.{Row}
use Rattle.model.specs.declared.turns.Actor.{Actor}
use Rattle.model.specs.declared.turns.Actor.TheVariants.{Thread, Collector}
use Rattle.model.specs.Journals.{JournalValue, HeadFits}
use Rattle.model.specs.JournalTexts.{row_line, row_line_1, lines_of_rows, end_line, IsTextOf}
use Rattle.journal_texts.specs.declared.heads.Version.{Version}
use Rattle.journal_texts.specs.declared.heads.Version.TheVariants.{One, Two}
use Rattle.journal_texts.specs.declared.heads.Head.{Head}

-- How a journal's text is read: each reader takes what a text begins with, and leaves the rest.

-- ---- the journals that there are

-- threads have numbers of one byte
abbrev pub FitsActor : Actor → Type 0
FitsActor (Thread t) = t < 256
FitsActor Collector = ⊤

abbrev pub FitsRow : ℕ → Row → Type 0
FitsRow workers row = (row.worker < workers) × FitsActor row.actor

-- what holds of every journal
pub record IsJournal (journal : JournalValue) : Type 0 where
  pub head : HeadFits journal.shape journal.limits journal.workers
  pub rows : All (FitsRow journal.workers) journal.rows

-- a text is that of some journal
abbrev pub HasJournal : List ℕ → Type 0
HasJournal text = (journal : JournalValue) × IsJournal journal × IsTextOf text journal

-- ---- readers

-- what was read, and the text after it
abbrev pub Read : Type 0 → Type 0
Read A = Option (A × List ℕ)

-- code answers what a reader reads
abbrev pub Tells : {A : Type 0} → Option (A × Bor (List ℕ)) → Read A → Type 0
Tells result read = MatchOption result (read ≡ None) (λ r. read ≡ Some (r.0, r.1.now))

-- one thing after another
abbrev pub both : {A B : Type 0} → (List ℕ → Read A) → (List ℕ → Read B) → List ℕ → Read (A × B)
both f g text = option_and_then (λ a. option_map (λ b. ((a.0, b.0), b.1)) (g a.1)) (f text)

-- a thing of which a test is true
abbrev pub kept : {A : Type 0} → (A → Bool) → (List ℕ → Read A) → List ℕ → Read A
kept test f text = option_and_then (λ a. if test a.0 then Some a else None) (f text)

-- a thing that stands for another
abbrev pub shaped : {A B : Type 0} → (A → B) → (List ℕ → Read A) → List ℕ → Read B
shaped to f text = option_map (λ a. (to a.0, a.1)) (f text)

-- the text after a word with which it begins
abbrev pub following : List ℕ → List ℕ → Option (List ℕ)
following word text = if bytes_eq (take (length word) text) word then Some (drop (length word) text) else None

-- a thing after a word
abbrev pub led : {A : Type 0} → List ℕ → (List ℕ → Read A) → List ℕ → Read A
led word f text = option_and_then f (following word text)

-- the number, of 32 bits, that prints as a word
abbrev pub number_of : List ℕ → Option ℕ
number_of word = if bytes_eq (decimal (digits_value 10 word)) word && nat_lt (digits_value 10 word) (2 ^ 32)
    then Some (digits_value 10 word) else None

-- a number before a word's end
abbrev pub number_then : List ℕ → List ℕ → Read ℕ
number_then word [] = None
number_then word (end ∷ rest) = option_map (λ n. (n, rest)) (number_of word)

-- a number, and the byte after it
abbrev pub number_at : ℕ → List ℕ → Read ℕ
number_at end text = let n = position_or_len (λ b. b == end) text in number_then (take n text) (drop n text)

-- ---- the head

abbrev pub version_else : Option (List ℕ) → Option (List ℕ) → Read Version
version_else (Some rest) second = Some (One, rest)
version_else None second = option_map (λ rest. (Two, rest)) second

abbrev pub version_at : List ℕ → Read Version
version_at text = version_else (following (codes "JVMJ 1\n") text) (following (codes "JVMJ 2\n") text)

abbrev pub shape_of : ℕ × (ℕ × ℕ) → HeapShape
shape_of p = record { small = p.0; medium = p.1.0; large = p.1.1 }

abbrev pub heap_at : List ℕ → Read HeapShape
heap_at text = shaped shape_of (led (codes "heap ") (both (number_at 32) (both (number_at 32) (number_at 10)))) text

abbrev pub limits_of : ℕ × ℕ → Limits
limits_of p = record { steps = p.0; output = p.1 }

abbrev pub limits_at : List ℕ → Read Limits
limits_at text = shaped limits_of (led (codes "limits ") (both (number_at 32) (number_at 10))) text

-- version 1 has one worker
abbrev pub workers_at : Version → List ℕ → Read ℕ
workers_at One text = Some (1, text)
workers_at Two text = led (codes "workers ") (number_at 10) text

-- what stands after the first line
abbrev pub following_first : Version → List ℕ → Read (HeapShape × (Limits × ℕ))
following_first version text = both heap_at (both limits_at (workers_at version)) text

abbrev pub head_of : Version → HeapShape × (Limits × ℕ) → Head
head_of version p = record { version = version; shape = p.0; limits = p.1.0; workers = p.1.1 }

abbrev pub head_at : List ℕ → Read Head
head_at text = option_and_then (λ v. option_map (λ p. (head_of v.0 p.0, p.1)) (following_first v.0 v.1))
    (version_at text)

-- a head's numbers are in range
abbrev pub Fits : Head → Type 0
Fits head = HeadFits head.shape head.limits head.workers

-- ---- rows

abbrev pub actor_else : Option (List ℕ) → Read Actor → Read Actor
actor_else (Some rest) thread = Some (Collector, rest)
actor_else None thread = thread

abbrev pub actor_at : List ℕ → Read Actor
actor_at text = actor_else (following (codes "c ") text) (shaped Thread (kept (λ n. nat_lt n 256) (number_at 32)) text)

abbrev pub outcome_of : ℕ → Option Outcome
outcome_of b = if b == 100 then Some Done else if b == 111 then Some Object else if b == 110 then Some NoRoom
    else if b == 102 then Some Fault else None

abbrev pub outcome_at : List ℕ → Read Outcome
outcome_at [] = None
outcome_at (b ∷ rest) = option_map (λ o. (o, rest)) (outcome_of b)

abbrev pub worker_at : Version → ℕ → List ℕ → Read ℕ
worker_at One workers text = option_map (λ rest. (0, rest)) (following (10 ∷ []) text)
worker_at Two workers text = led (32 ∷ []) (kept (λ n. nat_lt n workers) (number_at 10)) text

abbrev pub row_of : Actor × (Outcome × ℕ) → Row
row_of p = record { actor = p.0; outcome = p.1.0; worker = p.1.1 }

abbrev pub row_at : Version → ℕ → List ℕ → Read Row
row_at version workers text = shaped row_of (both actor_at (both outcome_at (worker_at version workers))) text

-- the rows are over where the text is, and where a line begins with `end`
abbrev pub is_over : List ℕ → Bool
is_over [] = true
is_over (b ∷ bs) = starts_with (λ x y. x == y) (b ∷ bs) (codes "end")

abbrev pub line_by : Version → Row → List ℕ
line_by One row = row_line_1 row
line_by Two row = row_line row

-- how many workers a version has
abbrev pub FitsVersion : Version → ℕ → Type 0
FitsVersion One workers = workers ≡ 1
FitsVersion Two workers = workers ≤ 9

-- a text is the lines of rows and the end line of some number
abbrev pub HasRows : Version → ℕ → List ℕ → Type 0
HasRows version workers text = (rows : List Row) × (n : ℕ) × All (FitsRow workers) rows
    × (text ≡ lines_of_rows (line_by version) rows ++ end_line n)
