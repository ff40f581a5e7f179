-- How many rows a turn of an actor, and then of a role, adds to the journal, and whose they are.
use Rattle.std.proofs.Common.{◌≡◌, ◌≤◌, ◌<◌, ◌+◌, ◌-◌, ℕ, zero, suc, Bool, true, false, List, [], ◌∷◌, ◌++◌, length}
use Rattle.std.proofs.Common.{All, Option, Some, None, if◌then◌else◌, nat_lt, refl, ap, sym, subst, ◌∙◌, arith}
use Rattle.std.proofs.Common.{append-nil, append_assoc, length-append}
use Rattle.std.proofs.lemmas.List.Elements.{All-append, All-nil}
use Rattle.std.specs.Prelude.{nat_le}
use Rattle.model.specs.declared.journals.Limits.{Limits}
use Rattle.model.specs.declared.journals.Row.{Row}
use Rattle.model.specs.declared.turns.Actor.{Actor}
use Rattle.model.specs.declared.turns.Actor.TheVariants.{Thread, Collector}
use Rattle.model.specs.declared.turns.Fault.{Fault as FaultKind}
use Rattle.model.specs.declared.turns.Turn.{Turn}
use Rattle.model.specs.declared.turns.Turn.TheVariants.{Done, NotReady, Stopped, Fault, OutputFull, StepLimit}
use Rattle.model.specs.ClassListings.{ClassListing}
use Rattle.model.specs.Worlds.{World}
use Rattle.model.specs.Ready.{is_ready}
use Rattle.model.specs.Turns.{overflows, actor_refusal, refusal_after, refusal}
use Rattle.model.specs.Machines.{Recorded, machine_of, reported_of, row_unless_refused, with_row, answer_unless_refused}
use Rattle.model.specs.Machines.{after_turn_by, answer_to}
use Rattle.model.specs.Observers.{next_birth_of, phase_of, pick_of, status_of, is_running}
use Rattle.scheduler.specs.Rounds.{after_round, after_rounds as after_thread_rounds, answered_by, collections, is_done}
use Rattle.scheduler.specs.Rounds.{picked, picked_answer, rounds_answer as thread_rounds_answer, swept, turned_by}
use Rattle.hall.specs.declared.roles.Burst.{Burst}
use Rattle.hall.specs.declared.roles.Role.{Role}
use Rattle.hall.specs.declared.roles.Role.TheVariants.{Both, Carrier, Collector as Collecting}
use Rattle.hall.specs.Roles.{last_is_collector, swept_once, swept_after, after_allowed, answer_allowed, done_so_far}
use Rattle.hall.specs.Roles.{after_more, answer_more, after_rounds, answer_rounds, after_known, answer_known}
use Rattle.hall.specs.Roles.{after_role, answer_role, collected, collected_answer, cycled, cycled_after, is_idle}
use Rattle.hall.specs.Roles.{goes_on, after_bursts, answer_bursts, after_carried, answer_carried}
use Rattle.hall.proofs.ManyRounds.{more-answer, more-world}
use Rattle.hall.specs.Shares.{ShareValue, following, counted_on, with_rows, rows_by, gc_of, times, Counts, Rises, Takes}
use Rattle.hall.specs.Shares.{CountsRows}

-- ---- a refused turn makes no row, and any other makes one

abbrev MakesNone : Option Turn → Type 0
MakesNone None = Unit {0}
MakesNone (Some t) = rows_by t ≡ 0

thread_none : (ready full : Bool) → MakesNone (if ready then (if full then Some OutputFull else None)
    else Some NotReady)
thread_none true true = refl
thread_none true false = tt
thread_none false full = refl

module _ (program : List ClassListing) (limits : Limits) (w : World) where
  actor_none : (actor : Actor) → MakesNone (actor_refusal program limits w actor)
  actor_none (Thread t) = thread_none (is_ready program w t) (overflows program limits w t)
  actor_none Collector = tt

  limit_none : (actor : Actor) (full : Bool)
      → MakesNone (if full then Some StepLimit else actor_refusal program limits w actor)
  limit_none actor true = refl
  limit_none actor false = actor_none actor

  fault_none : (actor : Actor) (fault : Option (FaultKind × ℕ)) → MakesNone (refusal_after program limits w actor fault)
  fault_none actor (Some fault) = refl
  fault_none actor None = limit_none actor (nat_le limits.steps w.rows)

  refused_none : (actor : Actor) → MakesNone (refusal program limits w actor)
  unfolding refusal
  refused_none actor = fault_none actor w.fault

reported_one : (fault : Option (FaultKind × ℕ)) → 1 ≡ rows_by (reported_of fault)
reported_one None = refl
reported_one (Some fault) = refl

-- ---- rows of one worker

-- w is v with so many rows more, all of this worker
pub record Adds (v w : Recorded) (worker n : ℕ) : Type 0 where
  pub rows : List Row
  pub world_is : w ≡ with_rows v rows
  pub own : All (λ (row : Row). row.worker ≡ worker) rows
  pub long : length rows ≡ n

adds_none : (v : Recorded) (worker n : ℕ) → n ≡ 0 → Adds v v worker n
adds_none v worker n none = record {
  rows = [];
  world_is = ap (λ (rows : List Row). record v { journal = record v.journal { rows = rows } })
      (sym (append-nil v.journal.rows));
  own = All-nil (λ (row : Row). row.worker ≡ worker);
  long = sym none;
}

one_own : (worker : ℕ) (row : Row) → row.worker ≡ worker → All (λ (r : Row). r.worker ≡ worker) (row ∷ [])
one_own worker row same zero d h = same
one_own worker row same (suc k) d h = absurd (omega arith)

adds_one : (v : Recorded) (row : Row) (n : ℕ) → 1 ≡ n → Adds v (with_rows v (row ∷ [])) row.worker n
adds_one v row n one = record { rows = row ∷ []; world_is = refl; own = one_own row.worker row refl; long = one }

pub adds_on : (u v w : Recorded) (worker m n : ℕ) → Adds u v worker m → Adds v w worker n → Adds u w worker (m + n)
adds_on u v w worker m n a b = record {
  rows = a.rows ++ b.rows;
  world_is =
      b.world_is ∙ ap (λ (x : Recorded). with_rows x b.rows) a.world_is
      ∙ ap (λ (rows : List Row). record u { journal = record u.journal { rows = rows } })
      (append_assoc u.journal.rows a.rows b.rows);
  own = All-append (λ (row : Row). row.worker ≡ worker) a.rows b.rows a.own b.own;
  long = length-append a.rows b.rows ∙ (let p = a.long in let q = b.long in omega arith);
}

pub adds_length : (v w : Recorded) (worker n : ℕ) → Adds v w worker n → length w.journal.rows
    ≡ length v.journal.rows + n
adds_length v w worker n a =
    ap (λ (x : Recorded). length x.journal.rows) a.world_is
    ∙ length-append v.journal.rows a.rows
    ∙ ap (λ (k : ℕ). length v.journal.rows + k) a.long

-- ---- an actor's turn

by_refusal : (v after : Recorded) (actor : Actor) (worker : ℕ) (refused : Option Turn) → MakesNone refused
    → Adds v (with_row v (row_unless_refused v.program (machine_of v) actor worker refused)) worker
    (rows_by (answer_unless_refused after refused))
by_refusal v after actor worker None none = adds_one v _ _ (reported_one (machine_of after).world.fault)
by_refusal v after actor worker (Some t) none = adds_none v worker _ none

-- a turn adds a row of its worker where its answer says so, and else nothing
pub turn_adds : (v : Recorded) (actor : Actor) (worker : ℕ)
    → Adds v (after_turn_by v actor worker) worker (rows_by (answer_to v actor worker))
unfolding after_turn_by answer_to
turn_adds v actor worker =
    by_refusal v (after_turn_by v actor worker) actor worker
    (refusal v.program v.journal.limits (machine_of v).world actor)
    (refused_none v.program v.journal.limits (machine_of v).world actor)

pub turn_made : (v w : Recorded) (actor : Actor) (worker : ℕ) (t : Turn) → w ≡ after_turn_by v actor worker
    → t ≡ answer_to v actor worker → Adds v w worker (rows_by t)
turn_made v w actor worker t is answer = rw (is, answer) (turn_adds v actor worker)

-- the same of the turn of the thread that is picked
carried_adds : (v : Recorded) (worker : ℕ) (picked : Option ℕ)
    → Adds v (turned_by v worker picked) worker (rows_by (answered_by v worker picked))
carried_adds v worker None = adds_none v worker 0 refl
carried_adds v worker (Some t) = turn_adds v (Thread t) worker

pub pick_made : (v w : Recorded) (worker : ℕ) (t : Turn) → w ≡ turned_by v worker (pick_of v)
    → t ≡ answered_by v worker (pick_of v) → Adds v w worker (rows_by t)
pick_made v w worker t is answer = rw (is, answer) (carried_adds v worker (pick_of v))

module _ (v w : Recorded) (worker : ℕ) (t : Turn) (adds : Adds v w worker (rows_by t)) where
  pub turn_length : length v.journal.rows + rows_by t ≡ length w.journal.rows
  turn_length = sym (adds_length v w worker (rows_by t) adds)

  pub turn_counts : (before after : ShareValue) → after ≡ counted_on before (rows_by t) → CountsRows v w before after
  turn_counts before after e = record {
    workers_is = ap (λ (x : Recorded). x.journal.workers) adds.world_is;
    worker_is = ap (λ (s : ShareValue). s.worker) e;
    role_is = ap (λ (s : ShareValue). s.role) e;
    burst_is = ap (λ (s : ShareValue). s.burst) e;
    count_is = (let c : after.count ≡ before.count + rows_by t = ap (λ (s : ShareValue). s.count) e
        in let l = turn_length in omega arith);
  }

-- ---- a role's turn

small : (t : Turn) → rows_by t ≤ 1
small Done = omega arith
small (Fault f) = omega arith
small NotReady = omega arith
small Stopped = omega arith
small OutputFull = omega arith
small StepLimit = omega arith

-- the same of at most so many rows
record AddsFew (v w : Recorded) (worker most : ℕ) : Type 0 where
  n : ℕ
  few : n ≤ most
  adds : Adds v w worker n

once_if : (v : Recorded) (worker : ℕ) (running : Bool) → AddsFew v (if running then after_turn_by v Collector worker
    else v) worker 1
once_if v worker true = record {
  n = rows_by (answer_to v Collector worker);
  few = small (answer_to v Collector worker);
  adds = turn_adds v Collector worker;
}
once_if v worker false = record { n = 0; few = omega arith; adds = adds_none v worker 0 refl }

collections_add : (worker n : ℕ) (v : Recorded) → AddsFew v (collections v worker n) worker n
collections_add worker zero v = record { n = 0; few = omega arith; adds = adds_none v worker 0 refl }
collections_add worker (suc n) v =
    let once = once_if v worker true in
    let rest = collections_add worker n (after_turn_by v Collector worker) in
    record {
      n = once.n + rest.n;
      few = (let f = once.few in let g = rest.few in omega arith);
      adds = adds_on v (after_turn_by v Collector worker) (collections v worker (suc n)) worker once.n rest.n once.adds
          rest.adds;
    }

swept_adds : (worker n : ℕ) (v : Recorded) → AddsFew v (swept v worker n) worker n
swept_adds worker n v = by (is_running (status_of v))
  where
    by : (b : Bool) → AddsFew v (if b then collections v worker n else v) worker n
    by true = collections_add worker n v
    by false = record { n = 0; few = omega arith; adds = adds_none v worker 0 refl }

-- ---- one round

-- how many rows one round with this answer makes
abbrev RisesOnce : Role → Turn → ℕ → Type 0
RisesOnce role Done n = (1 ≤ n) × (n ≤ 1 + gc_of role)
RisesOnce role (Fault f) n = n ≡ 1
RisesOnce role NotReady n = n ≡ 0
RisesOnce role Stopped n = n ≡ 0
RisesOnce role OutputFull n = n ≡ 0
RisesOnce role StepLimit n = n ≡ 0

-- w is v with the rows of a round with this answer
record OnceAdds (v w : Recorded) (role : Role) (answer : Turn) (worker : ℕ) : Type 0 where
  n : ℕ
  rises : RisesOnce role answer n
  adds : Adds v w worker n

rises_one : (role : Role) (t : Turn) → RisesOnce role t (rows_by t)
rises_one role Done = (omega arith, omega arith)
rises_one role (Fault f) = refl
rises_one role NotReady = refl
rises_one role Stopped = refl
rises_one role OutputFull = refl
rises_one role StepLimit = refl

-- one turn is a round of any role
role_once : (v w : Recorded) (role : Role) (t : Turn) (worker : ℕ) → Adds v w worker (rows_by t)
    → OnceAdds v w role t worker
role_once v w role t worker adds = record { n = rows_by t; rises = rises_one role t; adds = adds }

both_adds : (v u : Recorded) (gc worker : ℕ) (t : Turn) → Adds v u worker (rows_by t)
    → OnceAdds v (swept_after t u worker gc) (Both gc) t worker
both_adds v u gc worker Done a =
    let rest = swept_adds worker gc u in
    record {
      n = 1 + rest.n;
      rises = (omega arith, (let f = rest.few in omega arith));
      adds = adds_on v u (swept u worker gc) worker 1 rest.n a
          rest.adds;
    }
both_adds v u gc worker (Fault f) a = role_once v u (Both gc) (Fault f) worker a
both_adds v u gc worker NotReady a = role_once v u (Both gc) NotReady worker a
both_adds v u gc worker Stopped a = role_once v u (Both gc) Stopped worker a
both_adds v u gc worker OutputFull a = role_once v u (Both gc) OutputFull worker a
both_adds v u gc worker StepLimit a = role_once v u (Both gc) StepLimit worker a

collected_if : (v : Recorded) (worker : ℕ) (last : Bool)
    → Adds v (if last then v else after_turn_by v Collector worker) worker (rows_by (if last then NotReady
    else answer_to v Collector worker))
collected_if v worker true = adds_none v worker 0 refl
collected_if v worker false = turn_adds v Collector worker

allowed_adds : (v : Recorded) (role : Role) (worker : ℕ)
    → OnceAdds v (after_allowed v role worker) role (answer_allowed v role worker) worker
allowed_adds v Carrier worker = role_once v _ Carrier (answered_by v worker (pick_of v)) worker
    (carried_adds v worker (pick_of v))
allowed_adds v Collecting worker = role_once v _ Collecting (collected_answer v worker) worker
    (collected_if v worker (last_is_collector v))
allowed_adds v (Both gc) worker = both_adds v (turned_by v worker (pick_of v)) gc worker
    (answered_by v worker (pick_of v)) (carried_adds v worker (pick_of v))

-- ---- more rounds

-- how many rows so many more rounds make at most, the last of which has this answer
abbrev RisesMore : Role → ℕ → Turn → ℕ → Type 0
RisesMore role extra Done n = n ≤ times extra (1 + gc_of role)
RisesMore role extra (Fault f) n = (1 ≤ n) × (n + (1 + gc_of role) ≤ 1 + times extra (1 + gc_of role))
RisesMore role extra NotReady n = ⊥
RisesMore role extra Stopped n = n + (1 + gc_of role) ≤ times extra (1 + gc_of role)
RisesMore role extra OutputFull n = n + (1 + gc_of role) ≤ times extra (1 + gc_of role)
RisesMore role extra StepLimit n = n + (1 + gc_of role) ≤ times extra (1 + gc_of role)

record MoreAdds (v w : Recorded) (role : Role) (extra : ℕ) (answer : Turn) (worker : ℕ) : Type 0 where
  n : ℕ
  rises : RisesMore role extra answer n
  adds : Adds v w worker n

-- a round before them
grown : (role : Role) (extra d n : ℕ) (t : Turn) → d ≤ 1 + gc_of role → RisesMore role extra t n
    → RisesMore role (suc extra) t (d + n)
grown role extra d n Done few h = omega arith
grown role extra d n (Fault f) few h = (let a = h.0 in omega arith, let b = h.1 in omega arith)
grown role extra d n NotReady few h = absurd h
grown role extra d n Stopped few h = omega arith
grown role extra d n OutputFull few h = omega arith
grown role extra d n StepLimit few h = omega arith

more_if : (v u : Recorded) (role : Role) (worker extra : ℕ) (t : Turn) → OnceAdds v u role t worker
    → MoreAdds u (after_more u role worker extra) role extra (answer_more u role worker extra) worker
    → MoreAdds v (if is_done t then after_more u role worker extra else u) role (suc extra) (if is_done t
    then answer_more u role worker extra else done_so_far t) worker
more_if v u role worker extra Done once rest = record {
  n = once.n + rest.n;
  rises = grown role extra once.n rest.n (answer_more u role worker extra) once.rises.1 rest.rises;
  adds = adds_on v u (after_more u role worker extra) worker once.n rest.n once.adds rest.adds;
}
more_if v u role worker extra (Fault f) once rest = record {
  n = once.n;
  rises = (let e = once.rises in omega arith, let e = once.rises in omega arith);
  adds = once.adds;
}
more_if v u role worker extra NotReady once rest = record {
  n = once.n;
  rises = (let e = once.rises in omega arith);
  adds = once.adds;
}
more_if v u role worker extra Stopped once rest = record {
  n = once.n;
  rises = (let e = once.rises in omega arith);
  adds = once.adds;
}
more_if v u role worker extra OutputFull once rest = record {
  n = once.n;
  rises = (let e = once.rises in omega arith);
  adds = once.adds;
}
more_if v u role worker extra StepLimit once rest = record {
  n = once.n;
  rises = (let e = once.rises in omega arith);
  adds = once.adds;
}

more_adds : (role : Role) (worker extra : ℕ) (v : Recorded)
    → MoreAdds v (after_more v role worker extra) role extra (answer_more v role worker extra) worker
more_adds role worker zero v = record { n = 0; rises = omega arith; adds = adds_none v worker 0 refl }
more_adds role worker (suc extra) v =
    more_if v (after_allowed v role worker) role worker extra (answer_allowed v role worker)
    (allowed_adds v role worker)
    (more_adds role worker extra (after_allowed v role worker))

-- ---- more than so many rounds

times_plus : (e k m : ℕ) → times (e + k) m ≡ times e m + times k m
times_plus zero k m =
    let none : 0 + k ≡ k = omega arith in
    let same : times (0 + k) m ≡ times k m = ap (λ (j : ℕ). times j m) none in
    omega (arith, same)
times_plus (suc e) k m =
    let rest = times_plus e k m in
    let next : suc e + k ≡ suc (e + k) = omega arith in
    let first : times (suc e + k) m ≡ m + times (e + k) m = ap (λ (j : ℕ). times j m) next in
    omega (arith, rest, first)

-- so many rounds and so many more, the last of which answers this
more_on : (role : Role) (e k m n : ℕ) (t : Turn) → RisesMore role e Done m → RisesMore role k t n
    → RisesMore role (e + k) t (m + n)
more_on role e k m n Done few h = let sum = times_plus e k (1 + gc_of role) in omega arith
more_on role e k m n (Fault f) few h = let sum = times_plus e k (1 + gc_of role)
    in (let a = h.0 in omega arith, let b = h.1 in omega arith)
more_on role e k m n NotReady few h = absurd h
more_on role e k m n Stopped few h = let sum = times_plus e k (1 + gc_of role) in omega arith
more_on role e k m n OutputFull few h = let sum = times_plus e k (1 + gc_of role) in omega arith
more_on role e k m n StepLimit few h = let sum = times_plus e k (1 + gc_of role) in omega arith

more_wide : (role : Role) (e k n : ℕ) (t : Turn) → RisesMore role e t n → RisesMore role (e + k) t n
more_wide role e k n Done h = let sum = times_plus e k (1 + gc_of role) in omega arith
more_wide role e k n (Fault f) h = let sum = times_plus e k (1 + gc_of role)
    in (let a = h.0 in omega arith, let b = h.1 in omega arith)
more_wide role e k n NotReady h = absurd h
more_wide role e k n Stopped h = let sum = times_plus e k (1 + gc_of role) in omega arith
more_wide role e k n OutputFull h = let sum = times_plus e k (1 + gc_of role) in omega arith
more_wide role e k n StepLimit h = let sum = times_plus e k (1 + gc_of role) in omega arith

wide_more : (v w : Recorded) (role : Role) (e k : ℕ) (t : Turn) (worker : ℕ) → MoreAdds v w role e t worker
    → MoreAdds v w role (e + k) t worker
wide_more v w role e k t worker m = record { n = m.n; rises = more_wide role e k m.n t m.rises; adds = m.adds }

-- ---- a carrier's bursts

unswept : (d r : Bool) (u : Recorded) → (if d then (if r then u else u) else u) ≡ u
unswept true true u = refl
unswept true false u = refl
unswept false r u = refl

-- a round without a collector's turn is a turn of the thread that is picked
thread_round : (v : Recorded) (worker : ℕ) → after_round v worker 0 ≡ after_allowed v Carrier worker
thread_round v worker = unswept (is_done (picked_answer v worker)) (is_running (status_of (picked v worker)))
    (picked v worker)

thread_rounds : (worker n : ℕ) (v : Recorded) → after_thread_rounds v worker 0 n ≡ after_more v Carrier worker n
thread_rounds worker zero v = refl
thread_rounds worker (suc n) v =
    ap (λ (u : Recorded). if is_done (picked_answer v worker) then after_thread_rounds u worker 0 n
    else u) (thread_round v worker)
    ∙ ap (λ (w : Recorded). if is_done (picked_answer v worker) then w else after_allowed v Carrier worker)
    (thread_rounds worker n (after_allowed v Carrier worker))

done_if : (d : Bool) (a b c : Turn) → done_so_far a ≡ c → done_so_far (if d then a else b)
    ≡ (if d then c else done_so_far b)
done_if true a b c e = e
done_if false a b c e = refl

thread_answers : (worker n : ℕ) (v : Recorded) → done_so_far (thread_rounds_answer v worker 0 n)
    ≡ answer_more v Carrier worker n
thread_answers worker zero v = refl
thread_answers worker (suc n) v =
    done_if (is_done (picked_answer v worker)) (thread_rounds_answer (after_round v worker 0) worker 0 n)
    (picked_answer v worker) (answer_more (after_allowed v Carrier worker) Carrier worker n)
    (ap (λ (u : Recorded). done_so_far (thread_rounds_answer u worker 0 n)) (thread_round v worker)
    ∙ thread_answers worker n (after_allowed v Carrier worker))

carried_on : (worker extra : ℕ) (v : Recorded) → MoreAdds v (after_thread_rounds v worker 0 extra) Carrier extra
    (done_so_far (thread_rounds_answer v worker 0 extra)) worker
carried_on worker extra v = rw (thread_rounds worker extra v, thread_answers worker extra v)
    (more_adds Carrier worker extra v)

-- rounds with this answer, and rounds after them if they go on
module _ (v u w : Recorded) (worker e k b c : ℕ) (t : Turn) where
  burst_if : (a : Turn) → MoreAdds v u Carrier e (done_so_far a) worker → MoreAdds u w Carrier k t worker
      → MoreAdds v (if goes_on a b c then w else u) Carrier (e + k) (if goes_on a b c then t else done_so_far a) worker
  burst_if Done one rest = by_births (nat_lt b c)
    where
      by_births : (below : Bool) → MoreAdds v (if below then w else u) Carrier (e + k) (if below then t else Done)
          worker
      by_births true = record {
        n = one.n + rest.n;
        rises = more_on Carrier e k one.n rest.n t one.rises rest.rises;
        adds = adds_on v u w worker one.n rest.n one.adds rest.adds;
      }
      by_births false = wide_more v u Carrier e k Done worker one
  burst_if (Fault f) one rest = wide_more v u Carrier e k (Fault f) worker one
  burst_if NotReady one rest = wide_more v u Carrier e k Done worker one
  burst_if Stopped one rest = wide_more v u Carrier e k Stopped worker one
  burst_if OutputFull one rest = wide_more v u Carrier e k OutputFull worker one
  burst_if StepLimit one rest = wide_more v u Carrier e k StepLimit worker one

bursts_add : (worker due extra again : ℕ) (v : Recorded) → MoreAdds v (after_bursts v worker due extra again) Carrier
    (times (suc again) extra) (answer_bursts v worker due extra again) worker
bursts_add worker due extra zero v =
    wide_more v (after_thread_rounds v worker 0 extra) Carrier extra 0
    (done_so_far (thread_rounds_answer v worker 0 extra)) worker (carried_on worker extra v)
bursts_add worker due extra (suc again) v =
    burst_if v (after_thread_rounds v worker 0 extra) (after_bursts (after_thread_rounds v worker 0 extra) worker due
    extra again) worker extra (times (suc again) extra)
    (next_birth_of (after_thread_rounds v worker 0 extra)) due (answer_bursts (after_thread_rounds v worker 0 extra)
    worker due extra again)
    (thread_rounds_answer v worker 0 extra) (carried_on worker extra v)
    (bursts_add worker due extra again (after_thread_rounds v worker 0 extra))

-- ---- a role's turn

-- w is v with the rows of a role's turn with this answer
record RoleAdds (v w : Recorded) (role : Role) (extra : ℕ) (answer : Turn) (worker : ℕ) : Type 0 where
  n : ℕ
  rises : Rises role extra answer n
  adds : Adds v w worker n

whole : (role : Role) (extra d n : ℕ) (t : Turn) → (1 ≤ d) × (d ≤ 1 + gc_of role) → RisesMore role extra t n
    → Rises role extra t (d + n)
whole role extra d n Done few h = (let a = few.0 in omega arith, let b = few.1 in omega arith)
whole role extra d n (Fault f) few h = (let a = few.0 in omega arith, let b = few.1 in let c = h.1 in omega arith)
whole role extra d n NotReady few h = absurd h
whole role extra d n Stopped few h = let b = few.1 in omega arith
whole role extra d n OutputFull few h = let b = few.1 in omega arith
whole role extra d n StepLimit few h = let b = few.1 in omega arith

-- a round with this answer, and others after it if it was done
module _ (v u w : Recorded) (role : Role) (worker extra : ℕ) (answer : Turn) where
  rounds_if : (t : Turn) → OnceAdds v u role t worker → MoreAdds u w role extra answer worker
      → RoleAdds v (if is_done t then w else u) role extra (if is_done t then answer else t) worker
  rounds_if Done once rest = record {
    n = once.n + rest.n;
    rises = whole role extra once.n rest.n answer once.rises rest.rises;
    adds = adds_on v u w worker once.n rest.n once.adds rest.adds;
  }
  rounds_if (Fault f) once rest = record {
    n = once.n;
    rises = (let e = once.rises in omega arith, let e = once.rises in omega arith);
    adds = once.adds;
  }
  rounds_if NotReady once rest = record { n = once.n; rises = once.rises; adds = once.adds }
  rounds_if Stopped once rest = record { n = once.n; rises = (let e = once.rises in omega arith); adds = once.adds }
  rounds_if OutputFull once rest = record { n = once.n; rises = (let e = once.rises in omega arith); adds = once.adds }
  rounds_if StepLimit once rest = record { n = once.n; rises = (let e = once.rises in omega arith); adds = once.adds }

rounds_add : (v : Recorded) (role : Role) (worker extra : ℕ) → RoleAdds v (after_rounds v role worker extra) role extra
    (answer_rounds v role worker extra) worker
rounds_add v role worker extra =
    rounds_if v (after_allowed v role worker) (after_more (after_allowed v role worker) role worker extra) role worker
    extra
    (answer_more (after_allowed v role worker) role worker extra) (answer_allowed v role worker)
    (allowed_adds v role worker)
    (more_adds role worker extra (after_allowed v role worker))

carried_add : (v : Recorded) (worker : ℕ) (burst : Burst) (due : ℕ)
    → RoleAdds v (after_carried v worker burst due) Carrier (following Carrier burst)
    (answer_carried v worker burst due) worker
carried_add v worker burst due =
    rounds_if v (after_allowed v Carrier worker) (after_bursts (after_allowed v Carrier worker) worker due burst.extra
    burst.again) Carrier worker (following Carrier burst)
    (answer_bursts (after_allowed v Carrier worker) worker due burst.extra burst.again)
    (answer_allowed v Carrier worker) (allowed_adds v Carrier worker)
    (bursts_add worker due burst.extra burst.again (after_allowed v Carrier worker))

times_one : (n : ℕ) → times n 1 ≡ n
times_one zero = refl
times_one (suc n) = ap (λ (k : ℕ). 1 + k) (times_one n) ∙ omega arith

-- the collector's turns after its first
cycled_if : (v : Recorded) (worker n : ℕ) (idle : Bool)
    → AddsFew (swept_once v worker) (cycled (swept_once v worker) worker n) worker n
    → AddsFew v (if idle then v else cycled (swept_once v worker) worker n) worker (suc n)
cycled_if v worker n true rest = record { n = 0; few = omega arith; adds = adds_none v worker 0 refl }
cycled_if v worker n false rest =
    let once = once_if v worker (is_running (status_of v)) in
    record {
      n = once.n + rest.n;
      few = (let f = once.few in let g = rest.few in omega arith);
      adds = adds_on v (swept_once v worker) (cycled (swept_once v worker) worker n) worker once.n rest.n once.adds
          rest.adds;
    }

cycled_adds : (worker n : ℕ) (v : Recorded) → AddsFew v (cycled v worker n) worker n
cycled_adds worker zero v = record { n = 0; few = omega arith; adds = adds_none v worker 0 refl }
cycled_adds worker (suc n) v = cycled_if v worker n (is_idle (phase_of v)) (cycled_adds worker n (swept_once v worker))

following_cycled : (v u : Recorded) (worker most : ℕ) (t : Turn) → Adds v u worker (rows_by t)
    → RoleAdds v (cycled_after t u worker most) Collecting most t worker
following_cycled v u worker most Done a =
    let rest = cycled_adds worker most u in
    let ones = times_one most in
    record {
      n = 1 + rest.n;
      rises = (omega arith, (let f = rest.few in omega arith));
      adds = adds_on v u (cycled u worker most) worker 1 rest.n a
          rest.adds;
    }
following_cycled v u worker most (Fault f) a = record { n = 1; rises = (omega arith, omega arith); adds = a }
following_cycled v u worker most NotReady a = record { n = 0; rises = refl; adds = a }
following_cycled v u worker most Stopped a = record { n = 0; rises = omega arith; adds = a }
following_cycled v u worker most OutputFull a = record { n = 0; rises = omega arith; adds = a }
following_cycled v u worker most StepLimit a = record { n = 0; rises = omega arith; adds = a }

known_adds : (v : Recorded) (role : Role) (worker : ℕ) (burst : Burst) (due : ℕ)
    → RoleAdds v (after_known v role worker burst due) role (following role burst)
    (answer_known v role worker burst due) worker
known_adds v Carrier worker burst due = carried_add v worker burst due
known_adds v Collecting worker burst due =
    following_cycled v (collected v worker) worker burst.sweep (collected_answer v worker)
    (collected_if v worker (last_is_collector v))
known_adds v (Both gc) worker burst due = rounds_add v (Both gc) worker burst.extra

known_if : (v : Recorded) (role : Role) (worker : ℕ) (burst : Burst) (due : ℕ) (known : Bool)
    → RoleAdds v (if known then after_known v role worker burst due else v) role (following role burst) (if known
    then answer_known v role worker burst due else NotReady) worker
known_if v role worker burst due true = known_adds v role worker burst due
known_if v role worker burst due false = record { n = 0; rises = refl; adds = adds_none v worker 0 refl }

role_adds : (v : Recorded) (role : Role) (worker : ℕ) (burst : Burst) (due : ℕ)
    → RoleAdds v (after_role v role worker burst due) role (following role burst) (answer_role v role worker burst due)
    worker
unfolding after_role answer_role
role_adds v role worker burst due = known_if v role worker burst due (nat_lt worker v.journal.workers)

-- ---- shares

share_same : (a b : ShareValue) → a.worker ≡ b.worker → a.role ≡ b.role → a.burst ≡ b.burst → a.count ≡ b.count → a ≡ b
share_same a b p q s r i = record { worker = p i; role = q i; burst = s i; count = r i }

-- a share that counted the new rows of a role's turn
takes : (v w : Recorded) (answer : Turn) (before after : ShareValue)
    → RoleAdds v w before.role (following before.role before.burst) answer before.worker → CountsRows v w before after
    → Takes v w answer before after
takes v w answer before after role counts =
    let a = role.adds in
    let grown = adds_length v w before.worker role.n a in
    record {
      rows = a.rows;
      world_is = a.world_is;
      own = a.own;
      rises = subst (Rises before.role (following before.role before.burst) answer) (sym a.long) role.rises;
      share_is =
          share_same after (counted_on before (length a.rows)) counts.worker_is counts.role_is counts.burst_is
          (let c = counts.count_is in let l = a.long in omega arith);
    }

pub role_takes : (v w : Recorded) (answer : Turn) (before after : ShareValue) (due : ℕ)
    → w ≡ after_role v before.role before.worker before.burst due
    → answer ≡ answer_role v before.role before.worker before.burst due
    → CountsRows v w before after → Takes v w answer before after
role_takes v w answer before after due is reported counts =
    takes v w answer before after (rw (is, reported) (role_adds v before.role before.worker before.burst due)) counts

-- what it counted, with no word of the worlds
pub counted : (v w : Recorded) (answer : Turn) (before after : ShareValue) → Takes v w answer before after
    → Counts answer before after
counted v w answer before after t = record { n = length t.rows; rises = t.rises; share_is = t.share_is }

-- a turn that isn't taken
pub counts_nothing : (share : ShareValue) → Counts NotReady share share
counts_nothing share = record {
  n = 0;
  rises = refl;
  share_is = share_same share (counted_on share 0) refl refl refl
      (omega arith);
}

-- ---- counting step by step

pub counts_none : (v : Recorded) (share : ShareValue) → CountsRows v v share share
counts_none v share = record { workers_is = refl; worker_is = refl; role_is = refl; burst_is = refl; count_is = refl }

pub counts_on : (u v w : Recorded) (a b c : ShareValue) → CountsRows u v a b → CountsRows v w b c → CountsRows u w a c
counts_on u v w a b c x y = record {
  workers_is = y.workers_is ∙ x.workers_is;
  worker_is = y.worker_is ∙ x.worker_is;
  role_is = y.role_is ∙ x.role_is;
  burst_is = y.burst_is ∙ x.burst_is;
  count_is = (let p = x.count_is in let q = y.count_is in omega arith);
}

module _ (v : Recorded) (worker n i : ℕ) (lt : i < n) where
  next_cycled : n - i ≡ suc (n - (i + 1))
  next_cycled = omega (arith, lt)

  pub cycled_ends : is_idle (phase_of v) ≡ true → cycled v worker (n - i) ≡ v
  cycled_ends idle = ap (cycled v worker) next_cycled
      ∙ ap (λ (b : Bool). if b then v else cycled (swept_once v worker) worker (n - (i + 1))) idle

  pub cycled_more : is_idle (phase_of v) ≡ false → cycled v worker (n - i)
      ≡ cycled (swept_once v worker) worker (n - (i + 1))
  cycled_more idle = ap (cycled v worker) next_cycled
      ∙ ap (λ (b : Bool). if b then v else cycled (swept_once v worker) worker (n - (i + 1))) idle

pub still_known : (v w : Recorded) (a b : ShareValue) → CountsRows v w a b → a.worker < v.journal.workers
    → b.worker < w.journal.workers
still_known v w a b x known = let p = x.worker_is in let q = x.workers_is in omega arith

-- ---- so many rounds counted at once

-- rounds add rows of their worker
all_on : (worker gc extra : ℕ) (v : Recorded) → MoreAdds v (after_thread_rounds v worker gc extra) (Both gc) extra
    (done_so_far (thread_rounds_answer v worker gc extra)) worker
all_on worker gc extra v = rw (← more-world worker gc extra v, ← more-answer worker gc extra v)
    (more_adds (Both gc) worker extra v)

pub rounds_longer : (v w : Recorded) (worker gc extra : ℕ) → w ≡ after_thread_rounds v worker gc extra
    → length v.journal.rows ≤ length w.journal.rows
rounds_longer v w worker gc extra is =
    let more = all_on worker gc extra v in
    let long = adds_length v (after_thread_rounds v worker gc extra) worker more.n more.adds in
    let same : length w.journal.rows ≡ length (after_thread_rounds v worker gc extra).journal.rows = ap
    (λ (x : Recorded). length x.journal.rows) is in
    omega (arith, long, same)

pub rounds_counted : (v w : Recorded) (worker gc extra made : ℕ) (before after : ShareValue)
    → w ≡ after_thread_rounds v worker gc extra → length v.journal.rows + made ≡ length w.journal.rows
    → after ≡ counted_on before made → CountsRows v w before after
rounds_counted v w worker gc extra made before after is sum e =
    let more = all_on worker gc extra v in
    record {
      workers_is = ap (λ (x : Recorded). x.journal.workers) is ∙ ap (λ (x : Recorded). x.journal.workers)
          more.adds.world_is;
      worker_is = ap (λ (s : ShareValue). s.worker) e;
      role_is = ap (λ (s : ShareValue). s.role) e;
      burst_is = ap (λ (s : ShareValue). s.burst) e;
      count_is = (let c : after.count ≡ before.count + made = ap (λ (s : ShareValue). s.count) e
          in omega (arith, c, sum));
    }

-- ---- bursts, seen from their first one

module _ (v w : Recorded) (worker due extra again i : ℕ) (lt : i < again) (t : Turn) (is : w
    ≡ after_thread_rounds v worker 0 extra) (reported : t ≡ thread_rounds_answer v worker 0 extra) where
  left : again - i ≡ suc (again - (i + 1))
  left = omega (arith, lt)

  further : goes_on (thread_rounds_answer v worker 0 extra) (next_birth_of (after_thread_rounds v worker 0 extra)) due
      ≡ goes_on t (next_birth_of w) due
  further =
      ap (λ (a : Turn). goes_on a (next_birth_of (after_thread_rounds v worker 0 extra)) due) (sym reported)
      ∙ ap (λ (x : Recorded). goes_on t (next_birth_of x) due) (sym is)

  -- what is left where they go on
  pub bursts_left : goes_on t (next_birth_of w) due ≡ true → after_bursts v worker due extra (again - i)
      ≡ after_bursts w worker due extra (again - (i + 1))
  bursts_left on =
      ap (after_bursts v worker due extra) left
      ∙ ap (λ (b : Bool). if b then after_bursts (after_thread_rounds v worker 0 extra) worker due extra
      (again - (i + 1)) else after_thread_rounds v worker 0 extra) (further ∙ on)
      ∙ ap (λ (x : Recorded). after_bursts x worker due extra (again - (i + 1))) (sym is)

  pub answers_left : goes_on t (next_birth_of w) due ≡ true → answer_bursts v worker due extra (again - i)
      ≡ answer_bursts w worker due extra (again - (i + 1))
  answers_left on =
      ap (answer_bursts v worker due extra) left
      ∙ ap (λ (b : Bool). if b then answer_bursts (after_thread_rounds v worker 0 extra) worker due extra
      (again - (i + 1)) else done_so_far (thread_rounds_answer v worker 0 extra)) (further ∙ on)
      ∙ ap (λ (x : Recorded). answer_bursts x worker due extra (again - (i + 1))) (sym is)

  -- and where they end
  pub bursts_end : goes_on t (next_birth_of w) due ≡ false → after_bursts v worker due extra (again - i) ≡ w
  bursts_end off =
      ap (after_bursts v worker due extra) left
      ∙ ap (λ (b : Bool). if b then after_bursts (after_thread_rounds v worker 0 extra) worker due extra
      (again - (i + 1)) else after_thread_rounds v worker 0 extra) (further ∙ off)
      ∙ sym is

  pub answers_end : goes_on t (next_birth_of w) due ≡ false → answer_bursts v worker due extra (again - i)
      ≡ done_so_far t
  answers_end off =
      ap (answer_bursts v worker due extra) left
      ∙ ap (λ (b : Bool). if b then answer_bursts (after_thread_rounds v worker 0 extra) worker due extra
      (again - (i + 1)) else done_so_far (thread_rounds_answer v worker 0 extra)) (further ∙ off)
      ∙ ap done_so_far (sym reported)
