-- Many rounds in one call: the worlds that they lead to, and what they answer.
use Rattle.std.proofs.Common.{◌≡◌, ◌≢◌, ◌<◌, ◌≤◌, ◌+◌, ◌-◌, ℕ, zero, suc, List, [], ◌∷◌, length, Bool}
use Rattle.std.proofs.Common.{true, false, Option, Some, None, refl, ap, sym, subst, ◌∙◌, arith}
use Rattle.std.specs.Prelude.{if◌then◌else◌}
use Rattle.model.specs.declared.journals.Outcome.{Outcome}
use Rattle.model.specs.declared.journals.Row.{Row}
use Rattle.model.specs.declared.turns.Actor.{Actor}
use Rattle.model.specs.declared.turns.Actor.TheVariants.{Thread}
use Rattle.model.specs.declared.turns.Turn.{Turn}
use Rattle.model.specs.declared.turns.Turn.TheVariants.{Done as TurnDone, Fault, NotReady, OutputFull, StepLimit}
use Rattle.model.specs.declared.turns.Turn.TheVariants.{Stopped}
use Rattle.model.specs.Journals.{JournalValue}
use Rattle.model.specs.Machines.{Recorded, after_turn_by, row_for, with_row as recorded_with}
use Rattle.model.specs.Observers.{is_running, pick_of, status_of}
use Rattle.instructions.specs.Bursts.{FirstTurns, LeadsBy}
use Rattle.instructions.specs.FirstTurns.{IsFirstTurn}
use Rattle.instructions.specs.Loaded.{Loaded}
use Rattle.instructions.specs.LoneRounds.{noted_rounds}
use Rattle.instructions.specs.PlainRuns.{start_after}
use Rattle.instructions.proofs.NotedRoundLemmas.{rounds-workers}
use Rattle.scheduler.specs.Rounds.{LeadsOn, after_round, after_rounds, is_done, picked}
use Rattle.scheduler.specs.Rounds.{picked_answer, rounds_answer, rounds_left, turned_by}
use Rattle.scheduler.specs.Worlds.{IsOf, recorded}
use Rattle.scheduler.proofs.FirstTurns.{first_done, first_noted, first_picked}

-- ---- rounds with no turn of the collector, seen from the first one

-- a round is the turn of the thread that is picked
pub round-picked : (v : Recorded) (worker : ℕ) → after_round v worker 0 ≡ picked v worker
round-picked v worker = by (is_done (picked_answer v worker)) (is_running (status_of (picked v worker)))
  where
    by : (d b : Bool) → (if d then (if b then picked v worker else picked v worker) else picked v worker)
        ≡ picked v worker
    by true true = refl
    by true false = refl
    by false b = refl

module _ (v : Recorded) (worker n m : ℕ) (left : n ≡ suc m) (done : Bool) (is : is_done (picked_answer v worker) ≡ done)
  where
    pub world-first : after_rounds v worker 0 n ≡ (if done then after_rounds (picked v worker) worker 0 m
        else picked v worker)
    world-first =
        ap (after_rounds v worker 0) left
        ∙ ap (λ (x : Recorded). if is_done (picked_answer v worker) then after_rounds x worker 0 m
        else x) (round-picked v worker)
        ∙ ap (λ b. if b then after_rounds (picked v worker) worker 0 m else picked v worker) is

    pub answer-first : rounds_answer v worker 0 n ≡ (if done then rounds_answer (picked v worker) worker 0 m
        else picked_answer v worker)
    answer-first =
        ap (rounds_answer v worker 0) left
        ∙ ap (λ (x : Recorded). if is_done (picked_answer v worker) then rounds_answer x worker 0 m
        else picked_answer v worker) (round-picked v worker)
        ∙ ap (λ b. if b then rounds_answer (picked v worker) worker 0 m else picked_answer v worker) is

    pub left-first : rounds_left v worker 0 n ≡ (if done then rounds_left (picked v worker) worker 0 m else n)
    left-first =
        ap (rounds_left v worker 0) left
        ∙ ap (λ (x : Recorded). if is_done (picked_answer v worker) then rounds_left x worker 0 m
        else suc m) (round-picked v worker)
        ∙ ap (λ b. if b then rounds_left (picked v worker) worker 0 m else suc m) is
        ∙ ap (λ k. if done then rounds_left (picked v worker) worker 0 m else k) (sym left)

-- an answer that is done
done-is : (t : Turn) → is_done t ≡ true → t ≡ TurnDone
done-is TurnDone e = refl
done-is NotReady e = absurd (cc)
done-is Stopped e = absurd (cc)
done-is (Fault f) e = absurd (cc)
done-is OutputFull e = absurd (cc)
done-is StepLimit e = absurd (cc)

-- rounds that lead on leave the others
module _ (v w : Recorded) (worker gc n left : ℕ) (on : LeadsOn v worker gc n w) (fits : n ≤ left) where
  whole : left ≡ n + (left - n)
  whole = omega (arith, fits)

  pub world-left : after_rounds v worker gc left ≡ after_rounds w worker gc (left - n)
  world-left = ap (after_rounds v worker gc) whole ∙ on.world (left - n)

  pub answer-left : rounds_answer v worker gc left ≡ rounds_answer w worker gc (left - n)
  answer-left = ap (rounds_answer v worker gc) whole ∙ on.answer (left - n)

  pub left-left : rounds_left v worker gc left ≡ rounds_left w worker gc (left - n)
  left-left = ap (rounds_left v worker gc) whole ∙ on.left (left - n)

-- ---- the number of workers stays

workers-added : (v : Recorded) (o : Option Row) → (recorded_with v o).journal.workers ≡ v.journal.workers
workers-added v None = refl
workers-added v (Some row) = refl

workers-turned : (v : Recorded) (worker : ℕ) (o : Option ℕ) → (turned_by v worker o).journal.workers ≡ v.journal.workers
unfolding after_turn_by
workers-turned v worker None = refl
workers-turned v worker (Some t) = workers-added v (row_for v (Thread t) worker)

pub workers-after : (v : Recorded) (actor : Actor) (worker : ℕ) → (after_turn_by v actor worker).journal.workers
    ≡ v.journal.workers
unfolding after_turn_by
workers-after v actor worker = workers-added v (row_for v actor worker)

pub workers-picked : (v : Recorded) (worker : ℕ) → (picked v worker).journal.workers ≡ v.journal.workers
workers-picked v worker = workers-turned v worker (pick_of v)

-- ---- rounds that were made

pub leads-none : (v : Recorded) (worker gc : ℕ) → LeadsOn v worker gc 0 v
leads-none v worker gc = record {
  world = λ more. ap (after_rounds v worker gc) (none more);
  answer = λ more. ap (rounds_answer v worker gc) (none more);
  left = λ more. ap (rounds_left v worker gc) (none more);
} where
  none : (more : ℕ) → 0 + more ≡ more
  none more = omega arith

pub one-further : (n more : ℕ) → suc n + more ≡ n + suc more
one-further n more = omega arith

-- and one round more
pub leads-more : (v u w : Recorded) (worker n : ℕ) → LeadsOn v worker 0 n u → w ≡ picked u worker
    → picked_answer u worker ≡ TurnDone → LeadsOn v worker 0 (suc n) w
leads-more v u w worker n on same answer =
    let done : is_done (picked_answer u worker) ≡ true = ap is_done answer in
    record {
      world = λ more.
          ap (after_rounds v worker 0) (one-further n more) ∙ on.world (suc more)
          ∙ world-first u worker (suc more) more refl true done
          ∙ ap (λ (x : Recorded). after_rounds x worker 0 more) (sym same);
      answer = λ more.
          ap (rounds_answer v worker 0) (one-further n more) ∙ on.answer (suc more)
          ∙ answer-first u worker (suc more) more refl true done
          ∙ ap (λ (x : Recorded). rounds_answer x worker 0 more) (sym same);
      left = λ more.
          ap (rounds_left v worker 0) (one-further n more) ∙ on.left (suc more)
          ∙ left-first u worker (suc more) more refl true done
          ∙ ap (λ (x : Recorded). rounds_left x worker 0 more) (sym same);
    }

-- ---- one round

module _ (v : Recorded) (worker : ℕ) where
  pub one-world : after_rounds v worker 0 1 ≡ picked v worker
  one-world = by (is_done (picked_answer v worker)) refl
    where
      by : (d : Bool) → is_done (picked_answer v worker) ≡ d → after_rounds v worker 0 1 ≡ picked v worker
      by true e = world-first v worker 1 0 refl true e
      by false e = world-first v worker 1 0 refl false e

  pub one-answer : rounds_answer v worker 0 1 ≡ picked_answer v worker
  one-answer = by (is_done (picked_answer v worker)) refl
    where
      by : (d : Bool) → is_done (picked_answer v worker) ≡ d → rounds_answer v worker 0 1 ≡ picked_answer v worker
      by true e = answer-first v worker 1 0 refl true e ∙ sym (done-is (picked_answer v worker) e)
      by false e = answer-first v worker 1 0 refl false e

-- where one was made, or none, that tells what one more would be
module _ (v w : Recorded) (worker n : ℕ) (on : LeadsOn v worker 0 n w) where
  pub made-world : n ≡ 1 → w ≡ picked v worker
  made-world one =
      sym (on.world 0) ∙ ap (λ (k : ℕ). after_rounds v worker 0 (k + 0)) one ∙ one-world v worker

  pub made-answer : n ≡ 1 → TurnDone ≡ picked_answer v worker
  made-answer one =
      sym (on.answer 0) ∙ ap (λ (k : ℕ). rounds_answer v worker 0 (k + 0)) one ∙ one-answer v worker

  pub still-same : n ≡ 0 → w ≡ v
  still-same none = sym (on.world 0) ∙ ap (λ (k : ℕ). after_rounds v worker 0 (k + 0)) none

  pub still-world : n ≡ 0 → picked w worker ≡ picked v worker
  still-world none =
      sym (one-world w worker) ∙ sym (on.world 1) ∙ ap (λ (k : ℕ). after_rounds v worker 0 (k + 1)) none
      ∙ one-world v worker

  pub still-answer : n ≡ 0 → picked_answer w worker ≡ picked_answer v worker
  still-answer none =
      sym (one-answer w worker) ∙ sym (on.answer 1) ∙ ap (λ (k : ℕ). rounds_answer v worker 0 (k + 1)) none
      ∙ one-answer v worker

-- ---- turns of the first thread are rounds

-- the state after turns of thread 0 with these outcomes, and the journal with their rows
record Leads (s : Loaded) (j : JournalValue) (k worker : ℕ) (outcomes : List Outcome) (after : Loaded) : Type 0 where
  is : IsOf after (noted_rounds j worker 0 outcomes) (start_after k 0 (length outcomes))
  on : LeadsOn (recorded s j) worker 0 (length outcomes) (recorded after (noted_rounds j worker 0 outcomes))

module _ (s : Loaded) (j : JournalValue) (k worker : ℕ) (is : IsOf s j k) where
  abbrev v : Recorded
  v = recorded s j

  one_more : (outcome : Outcome) (outcomes : List Outcome) (x after : Loaded) → Leads s j k worker outcomes x
      → IsFirstTurn x (start_after k 0 (length outcomes)) after (0, outcome) → after.machine.world.fault ≡ None
      → Leads s j k worker (outcome ∷ outcomes) after
  one_more outcome outcomes x after leads made faultless =
      let n = length outcomes in
      let jn = noted_rounds j worker 0 outcomes in
      let kn = start_after k 0 n in
      let u = recorded x jn in
      let w = recorded after (noted_rounds j worker 0 (outcome ∷ outcomes)) in
      let same : w ≡ picked u worker = first_picked x jn kn leads.is worker 0 outcome after made in
      let answer = first_done x jn kn leads.is worker 0 outcome after made faultless in
      record {
        is = first_noted x jn kn leads.is worker 0 outcome after made;
        on = leads-more v u w worker n leads.on same answer;
      }

  leads : (outcomes : List Outcome) (after : Loaded) → FirstTurns s k 0 outcomes after
      → Leads s j k worker outcomes after
  leads [] after turns = record {
    is = subst (λ (x : Loaded). IsOf x j k) (sym turns) is;
    on = subst (λ (x : Loaded). LeadsOn v worker 0 0 (recorded x j)) (sym turns) (leads-none v worker 0);
  }
  leads (outcome ∷ outcomes) after turns =
      one_more outcome outcomes turns.0 after (leads outcomes turns.0 turns.1) turns.2 turns.3

  -- the same where the next thread to look at and the journal are known
  pub record Enters (n : ℕ) (after : Loaded) (noted : JournalValue) (next : ℕ) : Type 0 where
    pub joined : IsOf after noted next
    pub on : LeadsOn v worker 0 n (recorded after noted)
    pub workers : noted.workers ≡ j.workers

  pub enters : (n : ℕ) (after : Loaded) (noted : JournalValue) (next : ℕ) → LeadsBy s k worker j n after noted
      → next ≡ start_after k 0 n → Enters n after noted next
  enters n after noted next by is_next =
      let outcomes = by.outcomes in
      let x = leads outcomes after by.turns in
      let jn = noted_rounds j worker 0 outcomes in
      record {
        joined =
            subst (λ (i : ℕ). IsOf after noted i) (sym is_next)
            (subst (λ (y : JournalValue). IsOf after y (start_after k 0 n)) (sym by.noted)
            (subst (λ (i : ℕ). IsOf after jn (start_after k 0 i)) by.count x.is));
        on =
            subst (λ (y : JournalValue). LeadsOn v worker 0 n (recorded after y)) (sym by.noted)
            (subst (λ (i : ℕ). LeadsOn v worker 0 i (recorded after jn)) by.count x.on);
        workers = ap (λ (y : JournalValue). y.workers) by.noted ∙ rounds-workers j worker 0 outcomes;
      }

-- the one after a thread that made turns
pub following : (start thread n : ℕ) → n ≢ 0 → thread + 1 ≡ start_after start thread n
following start thread zero some = absurd (some refl)
following start thread (suc n) some = refl
