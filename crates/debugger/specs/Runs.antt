use Rattle.std.specs.Prelude.{◌≡◌, ℕ, ◌+◌, zero, suc, Bool, true, false, List, slice_index_or, Option, Some, None}
use Rattle.std.specs.Prelude.{if◌then◌else◌}
use Rattle.std.specs.Option.{option_and_then, option_map}
use Rattle.debug_texts.specs.declared.answers.Reason.{Reason}
use Rattle.debug_texts.specs.declared.answers.Reason.TheVariants.{Running, Finished, Stuck, Turn as ByTurn, Breakpoint}
use Rattle.model.specs.declared.places.CodePlace.{CodePlace}
use Rattle.model.specs.declared.turns.Actor.TheVariants.{Collector}
use Rattle.model.specs.declared.turns.Fault.{Fault as FaultKind}
use Rattle.model.specs.declared.turns.Status.{Status}
use Rattle.model.specs.declared.turns.Status.TheVariants.{Running as Runs, Finished as HasFinished, Stuck as IsStuck, Faulted}
use Rattle.model.specs.declared.turns.Turn.{Turn}
use Rattle.model.specs.declared.turns.Turn.TheVariants.{Done, Fault, NotReady, OutputFull, StepLimit, Stopped}
use Rattle.model.specs.Machines.{Recorded, after_turn_by, answer_to}
use Rattle.model.specs.Observers.{fault_of, is_running, pick_of, place_of, status_of}
use Rattle.instructions.specs.Stops.{number_of}
use Rattle.scheduler.specs.Rounds.{is_done, picked, picked_answer}
use Rattle.debugger.specs.Breakpoints.{Breakpoints, least_at}

-- `run N`: the turn of the thread that is picked, and a turn of the collector after it, so many times at most.

-- where a run leads, how many threads' turns were done, and why it ended
pub record Ran : Type 0 where
  pub world : Recorded
  pub turns : ℕ
  pub reason : Reason

abbrev pub ended : Recorded → ℕ → Reason → Ran
ended v turns reason = record { world = v; turns = turns; reason = reason }

abbrev pub one_more : Ran → Ran
one_more ran = record ran { turns = ran.turns + 1 }

-- ---- why it ends

abbrev pub fault_reason : Option (FaultKind × ℕ) → Reason
fault_reason None = ByTurn Stopped
fault_reason (Some fault) = ByTurn (Fault fault.0)

abbrev pub reason_by : Recorded → Status → Reason
reason_by v Runs = Running
reason_by v HasFinished = Finished
reason_by v IsStuck = Stuck
reason_by v Faulted = fault_reason (fault_of v)

abbrev pub reason_of : Recorded → Reason
reason_of v = reason_by v (status_of v)

-- the least number of a breakpoint at which the picked thread stands, and the thread
abbrev pub held_at : Breakpoints → Recorded → Option (ℕ × ℕ)
held_at bs v = option_and_then
    (λ t. option_map (λ n. (n, t)) (option_and_then (least_at bs) (place_of v t)))
    (pick_of v)

-- no thread stands at a breakpoint, whatever the world
abbrev pub HoldsNone : Breakpoints → Type 0
HoldsNone bs = (v : Recorded) → held_at bs v ≡ None

-- no breakpoint holds the first turn
abbrev pub held_unless : Bool → Breakpoints → Recorded → Option (ℕ × ℕ)
held_unless true bs v = None
held_unless false bs v = held_at bs v

-- each place at which a breakpoint stands is marked
abbrev pub Covers : List Bool → Breakpoints → Type 0
Covers marks bs = (place : CodePlace) → slice_index_or marks (number_of place) false ≡ false → least_at bs place ≡ None

-- whole rounds were made, and no more: so many, and of one more the thread's turn, or not
abbrev pub are_whole : ℕ → Bool → Bool
are_whole zero begun = false
are_whole (suc n) true = false
are_whole (suc n) false = true

-- a round that was begun has its thread's turn already
abbrev pub picked_unless : Bool → Recorded → Recorded
picked_unless true v = v
picked_unless false v = picked v 0

abbrev pub answer_unless : Bool → Recorded → Turn
answer_unless true v = Done
answer_unless false v = picked_answer v 0

-- why a run ends with a thread's turn that answers this
abbrev pub reason_after : Recorded → Turn → Reason
reason_after w NotReady = reason_of w
reason_after w Done = ByTurn Done
reason_after w Stopped = ByTurn Stopped
reason_after w (Fault fault) = ByTurn (Fault fault)
reason_after w OutputFull = ByTurn OutputFull
reason_after w StepLimit = ByTurn StepLimit

-- ---- a turn of the collector, where the world runs

abbrev pub swept_once : Recorded → Recorded
swept_once w = if is_running (status_of w) then after_turn_by w Collector 0 else w

abbrev pub sweep_answer : Recorded → Turn
sweep_answer w = if is_running (status_of w) then answer_to w Collector 0 else Done

-- ---- one round, and how it goes on

abbrev pub collected : (Recorded → Ran) → Recorded → Ran
collected rest w =
    if is_done (answer_to w Collector 0) then one_more (rest (after_turn_by w Collector 0))
    else ended (after_turn_by w Collector 0) 1 (ByTurn (answer_to w Collector 0))

abbrev pub after_done : (Recorded → Ran) → Recorded → Ran
after_done rest w = if is_running (status_of w) then collected rest w else ended w 1 (reason_of w)

abbrev pub turned : (Recorded → Ran) → Recorded → Ran
turned rest v = if is_done (picked_answer v 0) then after_done rest (picked v 0)
    else ended (picked v 0) 0 (ByTurn (picked_answer v 0))

abbrev pub unless_held : (Recorded → Ran) → Recorded → Option (ℕ × ℕ) → Ran
unless_held rest v (Some (number, thread)) = ended v 0 (Breakpoint number thread)
unless_held rest v None = turned rest v

-- so many rounds at most, the first of which is the first turn, or not
abbrev pub run_on : Breakpoints → Bool → ℕ → Recorded → Ran
run_on bs first zero v = ended v 0 (reason_of v)
run_on bs first (suc n) v =
    if is_running (status_of v) then unless_held (run_on bs false n) v (held_unless first bs v)
    else ended v 0 (reason_of v)

abbrev pub run_for : Breakpoints → ℕ → Recorded → Ran
run_for bs n v = run_on bs true n v
