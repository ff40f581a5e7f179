-- What a worker of a role does under the lock, on a world as contracts see it.
use Rattle.std.specs.Prelude.{ℕ, zero, suc, ◌-◌, Bool, true, false, Option, Some, None, nat_lt, length, slice_get}
use Rattle.std.specs.Prelude.{if◌then◌else◌}
use Rattle.model.specs.declared.colours.Phase.{Phase}
use Rattle.model.specs.declared.colours.Phase.TheVariants.{Idle, Statics, Frames, Mark, Append}
use Rattle.model.specs.declared.journals.Row.{Row}
use Rattle.model.specs.declared.turns.Actor.{Actor}
use Rattle.model.specs.declared.turns.Actor.TheVariants.{Thread, Collector}
use Rattle.model.specs.declared.turns.Turn.{Turn}
use Rattle.model.specs.declared.turns.Turn.TheVariants.{Done, NotReady, Stopped, Fault, OutputFull, StepLimit}
use Rattle.model.specs.Machines.{Recorded, after_turn_by, answer_to}
use Rattle.model.specs.Observers.{next_birth_of, phase_of, pick_of, status_of, is_running}
use Rattle.scheduler.specs.Rounds.{answered_by, is_done, swept, turned_by, after_rounds as after_thread_rounds}
use Rattle.scheduler.specs.Rounds.{rounds_answer as thread_rounds_answer}
use Rattle.hall.specs.declared.roles.Burst.{Burst}
use Rattle.hall.specs.declared.roles.Role.{Role}
use Rattle.hall.specs.declared.roles.Role.TheVariants.{Both, Carrier, Collector as Collecting}

-- ---- a collector's turn, unless the last row is the collector's

abbrev pub is_collector : Actor → Bool
is_collector Collector = true
is_collector (Thread t) = false

abbrev pub is_of_collector : Option Row → Bool
is_of_collector None = false
is_of_collector (Some row) = is_collector row.actor

-- whether the journal's last row is the collector's
abbrev pub last_is_collector : Recorded → Bool
last_is_collector v = is_of_collector (slice_get v.journal.rows (length v.journal.rows - 1))

abbrev pub collected : Recorded → ℕ → Recorded
collected v worker = if last_is_collector v then v else after_turn_by v Collector worker

abbrev pub collected_answer : Recorded → ℕ → Turn
collected_answer v worker = if last_is_collector v then NotReady else answer_to v Collector worker

-- ---- a collector's turn, if the status is Running

abbrev pub swept_once : Recorded → ℕ → Recorded
swept_once v worker = if is_running (status_of v) then after_turn_by v Collector worker else v

-- so many follow a thread's turn that was done, if the status is Running then
abbrev pub swept_after : Turn → Recorded → ℕ → ℕ → Recorded
swept_after Done v worker gc = swept v worker gc
swept_after NotReady v worker gc = v
swept_after Stopped v worker gc = v
swept_after (Fault f) v worker gc = v
swept_after OutputFull v worker gc = v
swept_after StepLimit v worker gc = v

-- ---- one round of a role

abbrev pub after_allowed : Recorded → Role → ℕ → Recorded
after_allowed v Carrier worker = turned_by v worker (pick_of v)
after_allowed v Collecting worker = collected v worker
after_allowed v (Both gc) worker = swept_after (answered_by v worker (pick_of v)) (turned_by v worker (pick_of v))
    worker gc

abbrev pub answer_allowed : Recorded → Role → ℕ → Turn
answer_allowed v Carrier worker = answered_by v worker (pick_of v)
answer_allowed v Collecting worker = collected_answer v worker
answer_allowed v (Both gc) worker = answered_by v worker (pick_of v)

-- ---- rounds of a role: a turn as above and, where it was done, so many more

-- rounds that found nobody ready at their end were done all the same
abbrev pub done_so_far : Turn → Turn
done_so_far Done = Done
done_so_far NotReady = Done
done_so_far Stopped = Stopped
done_so_far (Fault f) = Fault f
done_so_far OutputFull = OutputFull
done_so_far StepLimit = StepLimit

-- so many rounds more, which end with the first that isn't done
abbrev pub after_more : Recorded → Role → ℕ → ℕ → Recorded
after_more v role worker zero = v
after_more v role worker (suc n) =
    if is_done (answer_allowed v role worker) then after_more (after_allowed v role worker) role worker n
    else after_allowed v role worker

abbrev pub answer_more : Recorded → Role → ℕ → ℕ → Turn
answer_more v role worker zero = Done
answer_more v role worker (suc n) =
    if is_done (answer_allowed v role worker) then answer_more (after_allowed v role worker) role worker n
    else done_so_far (answer_allowed v role worker)

-- a round and, where it is done, so many more
abbrev pub after_rounds : Recorded → Role → ℕ → ℕ → Recorded
after_rounds v role worker extra =
    if is_done (answer_allowed v role worker) then after_more (after_allowed v role worker) role worker extra
    else after_allowed v role worker

abbrev pub answer_rounds : Recorded → Role → ℕ → ℕ → Turn
answer_rounds v role worker extra =
    if is_done (answer_allowed v role worker) then answer_more (after_allowed v role worker) role worker extra
    else answer_allowed v role worker

-- ---- a carrier's rounds after its first, again and again while all were done and no collection is due

-- whether rounds that answered this are followed by as many; a collection is due from the birth `due` on
abbrev pub goes_on : Turn → ℕ → ℕ → Bool
goes_on answer next due = if is_done answer then nat_lt next due else false

-- so many rounds, and so often again as many
abbrev pub after_bursts : Recorded → ℕ → ℕ → ℕ → ℕ → Recorded
after_bursts v worker due extra zero = after_thread_rounds v worker 0 extra
after_bursts v worker due extra (suc again) =
    if goes_on (thread_rounds_answer v worker 0 extra) (next_birth_of (after_thread_rounds v worker 0 extra)) due
    then after_bursts (after_thread_rounds v worker 0 extra) worker due extra again
    else after_thread_rounds v worker 0 extra

abbrev pub answer_bursts : Recorded → ℕ → ℕ → ℕ → ℕ → Turn
answer_bursts v worker due extra zero = done_so_far (thread_rounds_answer v worker 0 extra)
answer_bursts v worker due extra (suc again) =
    if goes_on (thread_rounds_answer v worker 0 extra) (next_birth_of (after_thread_rounds v worker 0 extra)) due
    then answer_bursts (after_thread_rounds v worker 0 extra) worker due extra again
    else done_so_far (thread_rounds_answer v worker 0 extra)

abbrev pub after_carried : Recorded → ℕ → Burst → ℕ → Recorded
after_carried v worker burst due =
    if is_done (answer_allowed v Carrier worker) then after_bursts (after_allowed v Carrier worker) worker due
    burst.extra burst.again
    else after_allowed v Carrier worker

abbrev pub answer_carried : Recorded → ℕ → Burst → ℕ → Turn
answer_carried v worker burst due =
    if is_done (answer_allowed v Carrier worker) then answer_bursts (after_allowed v Carrier worker) worker due
    burst.extra burst.again
    else answer_allowed v Carrier worker

-- ---- a collector's turns after its first, until a cycle ends, each if the world is running

abbrev pub is_idle : Phase → Bool
is_idle Idle = true
is_idle (Statics slot) = false
is_idle (Frames thread frame entry) = false
is_idle (Mark word) = false
is_idle (Append cell) = false

abbrev pub cycled : Recorded → ℕ → ℕ → Recorded
cycled v worker zero = v
cycled v worker (suc n) = if is_idle (phase_of v) then v else cycled (swept_once v worker) worker n

-- they follow a collector's turn that was done
abbrev pub cycled_after : Turn → Recorded → ℕ → ℕ → Recorded
cycled_after Done v worker n = cycled v worker n
cycled_after NotReady v worker n = v
cycled_after Stopped v worker n = v
cycled_after (Fault f) v worker n = v
cycled_after OutputFull v worker n = v
cycled_after StepLimit v worker n = v

-- ---- a turn of a role, a collection being due from the birth `due` on

abbrev pub after_known : Recorded → Role → ℕ → Burst → ℕ → Recorded
after_known v Carrier worker burst due = after_carried v worker burst due
after_known v Collecting worker burst due = cycled_after (collected_answer v worker) (collected v worker) worker
    burst.sweep
after_known v (Both gc) worker burst due = after_rounds v (Both gc) worker burst.extra

abbrev pub answer_known : Recorded → Role → ℕ → Burst → ℕ → Turn
answer_known v Carrier worker burst due = answer_carried v worker burst due
answer_known v Collecting worker burst due = collected_answer v worker
answer_known v (Both gc) worker burst due = answer_rounds v (Both gc) worker burst.extra

-- the world after a turn of a role by a worker, with rounds after the first as its burst says, and what it answers; a
-- worker that the journal doesn't know does nothing
unfoldable pub after_role : Recorded → Role → ℕ → Burst → ℕ → Recorded
after_role v role worker burst due = if nat_lt worker v.journal.workers then after_known v role worker burst due else v

unfoldable pub answer_role : Recorded → Role → ℕ → Burst → ℕ → Turn
answer_role v role worker burst due = if nat_lt worker v.journal.workers then answer_known v role worker burst due
    else NotReady
