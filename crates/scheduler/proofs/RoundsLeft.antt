-- So many rounds, seen from their first one.
use Rattle.std.proofs.Common.{◌≡◌, ◌<◌, ◌-◌, ◌+◌, ℕ, suc, Bool, true, ap, sym, ◌∙◌, arith}
use Rattle.std.specs.Prelude.{if◌then◌else◌}
use Rattle.model.specs.declared.turns.Actor.TheVariants.{Collector}
use Rattle.model.specs.Machines.{Recorded, after_turn_by}
use Rattle.scheduler.specs.Rounds.{after_round, after_rounds, collections, is_done, picked, picked_answer}
use Rattle.scheduler.specs.Rounds.{rounds_answer, rounds_left, swept}

pub collections-more : (v : Recorded) (worker n i : ℕ) → i < n → collections v worker (n - i)
    ≡ collections (after_turn_by v Collector worker) worker (n - (i + 1))
collections-more v worker n i lt = let e : n - i ≡ suc (n - (i + 1)) = omega (arith, lt) in ap (collections v worker) e

-- the first of so many rounds
module _ (v : Recorded) (worker gc n m : ℕ) (left : n ≡ suc m) (done : Bool) (is : is_done (picked_answer v worker)
    ≡ done) where
  pub rounds-first : after_rounds v worker gc n ≡ (if done then after_rounds (after_round v worker gc) worker gc m
      else after_round v worker gc)
  rounds-first = ap (after_rounds v worker gc) left
      ∙ ap (λ b. if b then after_rounds (after_round v worker gc) worker gc m else after_round v worker gc) is

  pub answer-first : rounds_answer v worker gc n ≡ (if done then rounds_answer (after_round v worker gc) worker gc m
      else picked_answer v worker)
  answer-first = ap (rounds_answer v worker gc) left
      ∙ ap (λ b. if b then rounds_answer (after_round v worker gc) worker gc m else picked_answer v worker) is

  pub left-first : rounds_left v worker gc n ≡ (if done then rounds_left (after_round v worker gc) worker gc m else n)
  left-first = ap (rounds_left v worker gc) left
      ∙ ap (λ b. if b then rounds_left (after_round v worker gc) worker gc m else suc m) is
      ∙ ap (λ k. if done then rounds_left (after_round v worker gc) worker gc m else k) (sym left)

  -- where its thread's turn is done it goes on with the collector's
  pub round-swept : done ≡ true → after_round v worker gc ≡ swept (picked v worker) worker gc
  round-swept e = ap (λ b. if b then swept (picked v worker) worker gc else picked v worker) (is ∙ e)
