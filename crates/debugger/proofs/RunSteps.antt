-- A run, round by round.
use Rattle.std.proofs.Common.{◌≡◌, ◌+◌, ◌∙◌, ℕ, zero, suc, Bool, true, false, Some, None, add-zero, ap, arith, refl, sym}
use Rattle.std.specs.Prelude.{if◌then◌else◌}
use Rattle.debug_texts.specs.declared.answers.Reason.{Reason}
use Rattle.debug_texts.specs.declared.answers.Reason.TheVariants.{Turn as ByTurn, Breakpoint}
use Rattle.model.specs.declared.turns.Actor.TheVariants.{Collector}
use Rattle.model.specs.Machines.{Recorded, after_turn_by, answer_to}
use Rattle.model.specs.Observers.{is_running, status_of}
use Rattle.scheduler.specs.Rounds.{after_round, is_done, picked, picked_answer, swept}
use Rattle.scheduler.proofs.Picking.{rests-answer}
use Rattle.debugger.specs.Breakpoints.{Breakpoints}
use Rattle.debugger.specs.Runs.{Ran, ended, held_unless, one_more, reason_of, run_on, sweep_answer, swept_once}

-- so many turns were made before
abbrev pub more : ℕ → Ran → Ran
more made ran = record ran { turns = made + ran.turns }

pub closes : (made k : ℕ) (w : Recorded) (r : Reason) (ran total : Ran) → ran ≡ ended w k r → more made ran ≡ total
    → ended w (made + k) r ≡ total
closes made k w r ran total e h = ap (more made) (sym e) ∙ h

-- where none is made after them
pub closes_here : (made : ℕ) (w : Recorded) (r : Reason) (ran total : Ran) → ran ≡ ended w 0 r → more made ran ≡ total
    → ended w made r ≡ total
closes_here made w r ran total e h = ap (λ n. ended w n r) (sym (add-zero made)) ∙ closes made 0 w r ran total e h

-- one more was made
pub goes_on : (made : ℕ) (rest ran total : Ran) → ran ≡ one_more rest → more made ran ≡ total → more (made + 1) rest ≡ total
goes_on made rest ran total e h = counted rest ∙ ap (more made) (sym e) ∙ h where
  counted : (rest : Ran) → more (made + 1) rest ≡ more made (one_more rest)
  counted rest = ap (λ n. ended rest.world n rest.reason) (swapped rest.turns) where
    swapped : (n : ℕ) → (made + 1) + n ≡ made + (n + 1)
    swapped n = omega arith

-- a world in which a thread's turn was done ran
pub runs_where_done : (v : Recorded) → is_done (picked_answer v 0) ≡ true → is_running (status_of v) ≡ true
runs_where_done v done = by (is_running (status_of v)) refl
  where
    by : (b : Bool) → is_running (status_of v) ≡ b → is_running (status_of v) ≡ true
    by true e = e
    by false e = let answer = ap is_done (rests-answer v 0 e) in absurd (cc)

pub round_swept : (v : Recorded) → is_done (picked_answer v 0) ≡ true → after_round v 0 1 ≡ swept_once (picked v 0)
round_swept v done = ap (λ b. if b then swept (picked v 0) 0 1 else picked v 0) done

module _ (bs : Breakpoints) (first : Bool) (n : ℕ) (v : Recorded) where
  pub rests : is_running (status_of v) ≡ false → run_on bs first n v ≡ ended v 0 (reason_of v)
  rests e = rests_at n where
    rests_at : (n : ℕ) → run_on bs first n v ≡ ended v 0 (reason_of v)
    rests_at zero = refl
    rests_at (suc k) = rw e refl

  pub holds : (number thread : ℕ) → is_running (status_of v) ≡ true → held_unless first bs v ≡ Some (number, thread)
      → run_on bs first (suc n) v ≡ ended v 0 (Breakpoint number thread)
  holds number thread e h = rw (e, h) refl

  module _ (e : is_running (status_of v) ≡ true) (h : held_unless first bs v ≡ None) where
    pub fails : is_done (picked_answer v 0) ≡ false
        → run_on bs first (suc n) v ≡ ended (picked v 0) 0 (ByTurn (picked_answer v 0))
    fails d = rw (e, h, d) refl

    module _ (d : is_done (picked_answer v 0) ≡ true) where
      pub last : is_running (status_of (picked v 0)) ≡ false
          → run_on bs first (suc n) v ≡ one_more (run_on bs false n (picked v 0))
      last s = rw (e, h, d, s, rests_then s) refl where
        rests_then : is_running (status_of (picked v 0)) ≡ false → run_on bs false n (picked v 0)
            ≡ ended (picked v 0) 0 (reason_of (picked v 0))
        rests_then s = rests_after n where
          rests_after : (n : ℕ) → run_on bs false n (picked v 0) ≡ ended (picked v 0) 0 (reason_of (picked v 0))
          rests_after zero = refl
          rests_after (suc k) = rw s refl

      pub limit : is_running (status_of (picked v 0)) ≡ true → is_done (answer_to (picked v 0) Collector 0) ≡ false
          → run_on bs first (suc n) v
          ≡ ended (after_turn_by (picked v 0) Collector 0) 1 (ByTurn (answer_to (picked v 0) Collector 0))
      limit s c = rw (e, h, d, s, c) refl

      pub round : is_running (status_of (picked v 0)) ≡ true → is_done (answer_to (picked v 0) Collector 0) ≡ true
          → run_on bs first (suc n) v ≡ one_more (run_on bs false n (after_turn_by (picked v 0) Collector 0))
      round s c = rw (e, h, d, s, c) refl

      private_stop : (b : Bool) → is_running (status_of (picked v 0)) ≡ b → is_done (sweep_answer (picked v 0)) ≡ false
          → run_on bs first (suc n) v
          ≡ ended (swept_once (picked v 0)) 1 (ByTurn (sweep_answer (picked v 0)))
      private_stop true s c = rw s (limit s (rw s at c))
      private_stop false s c = cc (rw s at c)

      -- the collector's turn isn't done
      pub stops : is_done (sweep_answer (picked v 0)) ≡ false → run_on bs first (suc n) v
          ≡ ended (swept_once (picked v 0)) 1 (ByTurn (sweep_answer (picked v 0)))
      stops c = private_stop (is_running (status_of (picked v 0))) refl c

      private_next : (b : Bool) → is_running (status_of (picked v 0)) ≡ b → is_done (sweep_answer (picked v 0)) ≡ true
          → run_on bs first (suc n) v ≡ one_more (run_on bs false n (swept_once (picked v 0)))
      private_next true s c = rw s (round s (rw s at c))
      private_next false s c = rw s (last s)

      -- it is, or there was none
      pub next_round : is_done (sweep_answer (picked v 0)) ≡ true → run_on bs first (suc n) v
          ≡ one_more (run_on bs false n (swept_once (picked v 0)))
      next_round c = private_next (is_running (status_of (picked v 0))) refl c
