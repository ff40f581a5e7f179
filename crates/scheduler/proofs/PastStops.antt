-- Rounds that begin at no stop, one after another.
use Rattle.std.proofs.Common.{◌≡◌, ◌<◌, ◌≤◌, ◌+◌, ◌∙◌, ℕ, zero, suc, Bool, true, false, ap, arith, refl, subst, sym}
use Rattle.std.specs.Prelude.{if◌then◌else◌}
use Rattle.model.specs.declared.turns.Turn.TheVariants.{Done}
use Rattle.model.specs.Machines.{Recorded}
use Rattle.model.specs.Observers.{ideal, is_running, status_of}
use Rattle.instructions.specs.declared.lone_rounds.Rounds.{Rounds}
use Rattle.instructions.specs.declared.stops.Stops.{Stops}
use Rattle.scheduler.specs.Rounds.{IsRoundPast, LeadsInto, LeadsOn, LeadsPast, PickedIf, PickedPast, PicksPast}
use Rattle.scheduler.specs.Rounds.{RoundsPast, after_round, after_rounds, collections, is_done, picked, picked_answer}
use Rattle.scheduler.specs.Rounds.{rounds_answer, rounds_left, swept}
use Rattle.scheduler.proofs.Bursts.{leads-none, one-further, still-same, workers-picked}
use Rattle.scheduler.proofs.RoundsLeft.{answer-first, left-first, rounds-first}

-- ---- turns

-- where one more is made, the first of all began at no stop
pub first-past : (stops : Stops) (v u : Recorded) (worker n : ℕ) → LeadsOn v worker 0 n u
    → (0 < n → PicksPast stops v) → PicksPast stops u → PicksPast stops v
first-past stops v u worker zero on before last = subst (PicksPast stops) (still-same v u worker 0 on refl) last
first-past stops v u worker (suc n) on before last = before (omega arith)

module _ (stops : Stops) (v w : Recorded) (worker : ℕ) where
  -- one is made and done, or nothing is
  pub picked-past : (made : Bool) → (made ≡ true → w ≡ picked v worker)
      → (made ≡ true → picked_answer v worker ≡ Done)
      → (made ≡ true → PicksPast stops v) → (made ≡ false → w ≡ v) → PickedPast stops v worker made w
  picked-past true is done past kept = (past refl, is refl, ap is_done (done refl))
  picked-past false is done past kept = kept refl

  pub workers-past : (made : Bool) → PickedPast stops v worker made w → w.journal.workers ≡ v.journal.workers
  workers-past true turn = ap (λ (x : Recorded). x.journal.workers) turn.1 ∙ workers-picked v worker
  workers-past false turn = ap (λ (x : Recorded). x.journal.workers) turn

-- ---- rounds

-- a turn, after which the world runs, and the collector's turns, for which there is room
module _ (stops : Stops) (v u w : Recorded) (worker gc : ℕ) (turn : PickedPast stops v worker true u)
    (runs : is_running (status_of u) ≡ true)
    (room : (ideal u).rows + gc ≤ u.journal.limits.steps) (collects : w ≡ collections u worker gc) where
  runs_then : is_running (status_of (picked v worker)) ≡ true
  runs_then = ap (λ (x : Recorded). is_running (status_of x)) (sym turn.1) ∙ runs

  pub round-past : IsRoundPast stops v worker gc w
  round-past = record {
    past = turn.0;
    done = turn.2;
    runs = runs_then;
    room = subst (λ (x : Recorded). (ideal x).rows + gc ≤ x.journal.limits.steps) turn.1 room;
    after =
        collects
        ∙ ap (λ (x : Recorded). collections x worker gc) turn.1
        ∙ sym (ap (λ b. if b then collections (picked v worker) worker gc else picked v worker) runs_then)
        ∙ sym (ap (λ b. if b then swept (picked v worker) worker gc else picked v worker) turn.2);
  }

-- none were made
pub led-nowhere : (stops : Stops) (v w : Recorded) (worker gc : ℕ) (rounds : Rounds) → rounds.made ≡ 0
    → rounds.begun ≡ false
    → LeadsPast stops v worker gc rounds w → w ≡ v
led-nowhere stops v w worker gc rounds none whole led =
    subst (λ b. PickedPast stops led.0 worker b w) whole led.2
    ∙ subst (λ n. RoundsPast stops v worker gc n led.0) none led.1

-- ---- rounds that begin at no stop are rounds

-- one more, whose thread's turn is done
pub round-more : (v u w : Recorded) (worker gc n : ℕ) → LeadsOn v worker gc n u
    → is_done (picked_answer u worker) ≡ true → w ≡ after_round u worker gc → LeadsOn v worker gc (suc n) w
round-more v u w worker gc n on done same = record {
  world = λ more.
      ap (after_rounds v worker gc) (one-further n more) ∙ on.world (suc more)
      ∙ rounds-first u worker gc (suc more) more refl true done
      ∙ ap (λ (x : Recorded). after_rounds x worker gc more) (sym same);
  answer = λ more.
      ap (rounds_answer v worker gc) (one-further n more) ∙ on.answer (suc more)
      ∙ answer-first u worker gc (suc more) more refl true done
      ∙ ap (λ (x : Recorded). rounds_answer x worker gc more) (sym same);
  left = λ more.
      ap (rounds_left v worker gc) (one-further n more) ∙ on.left (suc more)
      ∙ left-first u worker gc (suc more) more refl true done
      ∙ ap (λ (x : Recorded). rounds_left x worker gc more) (sym same);
}

on-past : (stops : Stops) (v w : Recorded) (worker gc n : ℕ) → RoundsPast stops v worker gc n w
    → LeadsOn v worker gc n w
on-past stops v w worker gc zero same = subst (LeadsOn v worker gc 0) (sym same) (leads-none v worker gc)
on-past stops v w worker gc (suc n) rounds =
    round-more v rounds.0 w worker gc n (on-past stops v rounds.0 worker gc n rounds.1) rounds.2.done rounds.2.after

if-past : (stops : Stops) (v w : Recorded) (worker : ℕ) (made : Bool) → PickedPast stops v worker made w
    → PickedIf v worker made w
if-past stops v w worker true turn = (turn.1, turn.2)
if-past stops v w worker false turn = turn

pub into-past : (stops : Stops) (v w : Recorded) (worker gc : ℕ) (rounds : Rounds)
    → LeadsPast stops v worker gc rounds w → LeadsInto v worker gc rounds w
into-past stops v w worker gc rounds led = (
  led.0,
  on-past stops v led.0 worker gc rounds.made led.1,
  if-past stops led.0 w worker rounds.begun led.2,
)
