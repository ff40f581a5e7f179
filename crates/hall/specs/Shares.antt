-- Shares as contracts see them, and what a turn of a role adds to the journal and to its worker's share.
use Rattle.std.specs.Prelude.{◌≡◌, ◌≤◌, ℕ, zero, suc, ◌+◌, List, [], ◌∷◌, ◌++◌, length, All}
use Rattle.model.specs.declared.journals.Row.{Row}
use Rattle.model.specs.declared.turns.Turn.{Turn}
use Rattle.model.specs.declared.turns.Turn.TheVariants.{Done, NotReady, Stopped, Fault, OutputFull, StepLimit}
use Rattle.model.specs.Machines.{Recorded}
use Rattle.hall.specs.declared.roles.Burst.{Burst}
use Rattle.hall.specs.declared.roles.Role.{Role}
use Rattle.hall.specs.declared.roles.Role.TheVariants.{Both, Carrier, Collector}

-- whose share it is, what this worker does, which rounds it may make after the first one of a turn, and how many rows
-- it has made
pub record ShareValue : Type 0 where
  pub worker : ℕ
  pub role : Role
  pub burst : Burst
  pub count : ℕ

-- a share for each role with this burst, of the workers from one on, none of which has made a row
abbrev pub dealt : Burst → ℕ → List Role → List ShareValue
dealt burst worker [] = []
dealt burst worker (role ∷ roles) = record { worker = worker; role = role; burst = burst; count = 0 }
    ∷ dealt burst (worker + 1) roles

-- the share when its worker has made so many rows more
abbrev pub counted_on : ShareValue → ℕ → ShareValue
counted_on share n = record share { count = share.count + n }

-- the world with more rows in its journal
abbrev pub with_rows : Recorded → List Row → Recorded
with_rows v rows = record v { journal = record v.journal { rows = v.journal.rows ++ rows } }

-- how many rows an actor's turn with this answer makes
abbrev pub rows_by : Turn → ℕ
rows_by Done = 1
rows_by (Fault f) = 1
rows_by NotReady = 0
rows_by Stopped = 0
rows_by OutputFull = 0
rows_by StepLimit = 0

-- how many collector turns a role takes after a thread's turn, at most
abbrev pub gc_of : Role → ℕ
gc_of (Both gc) = gc
gc_of Carrier = 0
gc_of Collector = 0

-- so many times as many
abbrev pub times : ℕ → ℕ → ℕ
times zero most = 0
times (suc n) most = most + times n most

-- how many rounds a burst has after the first one of a role's turn, at most
abbrev pub following : Role → Burst → ℕ
following Carrier burst = times (suc burst.again) burst.extra
following Collector burst = burst.sweep
following (Both gc) burst = burst.extra

-- how many rows a role's turn with this answer makes, the rounds after the first being so many at most
abbrev pub Rises : Role → ℕ → Turn → ℕ → Type 0
Rises role extra Done n = (1 ≤ n) × (n ≤ times (suc extra) (1 + gc_of role))
Rises role extra (Fault f) n = (1 ≤ n) × (n ≤ 1 + times extra (1 + gc_of role))
Rises role extra NotReady n = n ≡ 0
Rises role extra Stopped n = n ≤ times extra (1 + gc_of role)
Rises role extra OutputFull n = n ≤ times extra (1 + gc_of role)
Rises role extra StepLimit n = n ≤ times extra (1 + gc_of role)

-- a share before and after a turn of its role with this answer: nothing of it has changed but that it counted the rows
pub record Counts (answer : Turn) (before after : ShareValue) : Type 0 where
  pub n : ℕ
  pub rises : Rises before.role (following before.role before.burst) answer n
  pub share_is : after ≡ counted_on before n

-- the same with the worlds before and after: the rows that were counted are the ones that were added, all of this
-- worker, and nothing else of the world changed
pub record Takes (v w : Recorded) (answer : Turn) (before after : ShareValue) : Type 0 where
  pub rows : List Row
  pub world_is : w ≡ with_rows v rows
  pub own : All (λ (row : Row). row.worker ≡ before.worker) rows
  pub rises : Rises before.role (following before.role before.burst) answer (length rows)
  pub share_is : after ≡ counted_on before (length rows)

-- a share that counted the rows by which one world's journal is longer than another's, of as many workers
pub record CountsRows (v w : Recorded) (before after : ShareValue) : Type 0 where
  pub workers_is : w.journal.workers ≡ v.journal.workers
  pub worker_is : after.worker ≡ before.worker
  pub role_is : after.role ≡ before.role
  pub burst_is : after.burst ≡ before.burst
  pub count_is : after.count + length v.journal.rows ≡ before.count + length w.journal.rows
