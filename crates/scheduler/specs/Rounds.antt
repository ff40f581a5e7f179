-- Rounds of a world: a turn of the thread that is picked, and after it turns of the collector.
use Rattle.std.specs.Prelude.{◌≡◌, ◌≢◌, ◌+◌, ◌≤◌, ℕ, zero, suc, Bool, true, false, Option, IfSome, Some, None, if◌then◌else◌}
use Rattle.model.specs.declared.journals.Outcome.TheVariants.{Done as DoneOutcome}
use Rattle.model.specs.declared.journals.Row.{Row}
use Rattle.model.specs.declared.turns.Actor.TheVariants.{Thread, Collector}
use Rattle.model.specs.declared.turns.Turn.{Turn}
use Rattle.model.specs.declared.turns.Turn.TheVariants.{Done, NotReady, Stopped, Fault, OutputFull, StepLimit}
use Rattle.model.specs.Machines.{Recorded, after_turn_by, answer_to}
use Rattle.model.specs.Observers.{ideal, is_running, pick_of, place_of, status_of}
use Rattle.model.specs.Ready.{is_ready}
use Rattle.instructions.specs.declared.lone_rounds.Rounds.{Rounds}
use Rattle.instructions.specs.declared.stops.Stops.{Stops}
use Rattle.instructions.specs.Stops.{is_stop}

-- ---- the turn of the thread that is picked

abbrev pub turned_by : Recorded → ℕ → Option ℕ → Recorded
turned_by v worker None = v
turned_by v worker (Some t) = after_turn_by v (Thread t) worker

abbrev pub answered_by : Recorded → ℕ → Option ℕ → Turn
answered_by v worker None = NotReady
answered_by v worker (Some t) = answer_to v (Thread t) worker

abbrev pub picked : Recorded → ℕ → Recorded
picked v worker = turned_by v worker (pick_of v)

-- NotReady where none is picked, as in a world that doesn't run
abbrev pub picked_answer : Recorded → ℕ → Turn
picked_answer v worker = answered_by v worker (pick_of v)

-- ---- the collector's turns

abbrev pub collections : Recorded → ℕ → ℕ → Recorded
collections v worker zero = v
collections v worker (suc n) = collections (after_turn_by v Collector worker) worker n

-- so many where the world runs, which they don't change
abbrev pub swept : Recorded → ℕ → ℕ → Recorded
swept v worker gc = if is_running (status_of v) then collections v worker gc else v

-- ---- rounds

abbrev pub is_done : Turn → Bool
is_done Done = true
is_done NotReady = false
is_done Stopped = false
is_done (Fault f) = false
is_done OutputFull = false
is_done StepLimit = false

-- one round
abbrev pub after_round : Recorded → ℕ → ℕ → Recorded
after_round v worker gc = if is_done (picked_answer v worker) then swept (picked v worker) worker gc
    else picked v worker

-- so many rounds, the first of which whose thread's turn isn't done being the last
abbrev pub after_rounds : Recorded → ℕ → ℕ → ℕ → Recorded
after_rounds v worker gc zero = v
after_rounds v worker gc (suc n) =
    if is_done (picked_answer v worker) then after_rounds (after_round v worker gc) worker gc n
    else after_round v worker gc

-- what the last thread's turn answers, Done where no round was asked for
abbrev pub rounds_answer : Recorded → ℕ → ℕ → ℕ → Turn
rounds_answer v worker gc zero = Done
rounds_answer v worker gc (suc n) =
    if is_done (picked_answer v worker) then rounds_answer (after_round v worker gc) worker gc n
    else picked_answer v worker

-- how many are left to make: from the first on whose thread's turn isn't done, none where all are
abbrev pub rounds_left : Recorded → ℕ → ℕ → ℕ → ℕ
rounds_left v worker gc zero = 0
rounds_left v worker gc (suc n) =
    if is_done (picked_answer v worker) then rounds_left (after_round v worker gc) worker gc n else suc n

-- ---- many rounds in one call

-- the row of a thread's turn that was done and asked for no cell
abbrev pub done_by : ℕ → ℕ → Row
done_by thread worker = record { actor = Thread thread; outcome = DoneOutcome; worker = worker }

-- so many rounds by a worker lead from one world to another, and each thread's turn is done: with any rounds more, both
-- lead to the same world, answer the same, and leave as many
pub record LeadsOn (v : Recorded) (worker gc n : ℕ) (w : Recorded) : Type 0 where
  pub world : (more : ℕ) → after_rounds v worker gc (n + more) ≡ after_rounds w worker gc more
  pub answer : (more : ℕ) → rounds_answer v worker gc (n + more) ≡ rounds_answer w worker gc more
  pub left : (more : ℕ) → rounds_left v worker gc (n + more) ≡ rounds_left w worker gc more

-- the turn of the thread that is picked is made and done, or nothing is
abbrev pub PickedIf : Recorded → ℕ → Bool → Recorded → Type 0
PickedIf v worker true w = (w ≡ picked v worker) × (is_done (picked_answer v worker) ≡ true)
PickedIf v worker false w = w ≡ v

-- ---- rounds that begin at no stop

-- a thread is picked, and stands at no stop
abbrev pub PicksPast : Stops → Recorded → Type 0
PicksPast stops v = (t : ℕ) × (pick_of v ≡ Some t) × IfSome (place_of v t) (λ place. is_stop stops place ≡ false)

-- a whole round, each turn of which is done, of a thread that stands at no stop
pub record IsRoundPast (stops : Stops) (v : Recorded) (worker gc : ℕ) (w : Recorded) : Type 0 where
  pub past : PicksPast stops v
  pub done : is_done (picked_answer v worker) ≡ true
  pub runs : is_running (status_of (picked v worker)) ≡ true
  pub room : (ideal (picked v worker)).rows + gc ≤ (picked v worker).journal.limits.steps
  pub after : w ≡ after_round v worker gc

-- so many of them
abbrev pub RoundsPast : Stops → Recorded → ℕ → ℕ → ℕ → Recorded → Type 0
RoundsPast stops v worker gc zero w = w ≡ v
RoundsPast stops v worker gc (suc n) w = (x : Recorded) × RoundsPast stops v worker gc n x
    × IsRoundPast stops x worker gc w

-- the turn of a thread that stands at no stop is made and done, or nothing is
abbrev pub PickedPast : Stops → Recorded → ℕ → Bool → Recorded → Type 0
PickedPast stops v worker true w = PicksPast stops v × (w ≡ picked v worker) × (is_done (picked_answer v worker) ≡ true)
PickedPast stops v worker false w = w ≡ v

-- so many whole rounds, and of one more the thread's turn, or not, none of which begins at a stop
abbrev pub LeadsPast : Stops → Recorded → ℕ → ℕ → Rounds → Recorded → Type 0
LeadsPast stops v worker gc rounds w = (x : Recorded) × RoundsPast stops v worker gc rounds.made x
    × PickedPast stops x worker rounds.begun w

-- no thread but one becomes ready, or ceases to be
abbrev pub LeavesOthersReady : Recorded → ℕ → Recorded → Type 0
LeavesOthersReady v t w = (u : ℕ) → u ≢ t → is_ready w.program (ideal w) u ≡ is_ready v.program (ideal v) u

-- so many whole rounds, and of one more the thread's turn, or not
abbrev pub LeadsInto : Recorded → ℕ → ℕ → Rounds → Recorded → Type 0
LeadsInto v worker gc rounds w = (x : Recorded) × LeadsOn v worker gc rounds.made x × PickedIf x worker rounds.begun w
