-- Rounds one by one and in one call.
use Rattle.std.proofs.Common.{◌≡◌, ℕ, zero, suc, Bool, true, false, refl, ap, sym, ◌∙◌}
use Rattle.std.specs.Prelude.{if◌then◌else◌}
use Rattle.model.specs.declared.turns.Turn.{Turn}
use Rattle.model.specs.declared.turns.Turn.TheVariants.{Done, NotReady, Stopped, Fault, OutputFull, StepLimit}
use Rattle.model.specs.Machines.{Recorded}
use Rattle.model.specs.Observers.{pick_of}
use Rattle.scheduler.specs.Rounds.{after_round, after_rounds as after_thread_rounds, answered_by, is_done, picked}
use Rattle.scheduler.specs.Rounds.{picked_answer, rounds_answer as thread_rounds_answer, swept, turned_by}
use Rattle.hall.specs.declared.roles.Role.TheVariants.{Both}
use Rattle.hall.specs.Roles.{after_allowed, after_more, after_rounds, answer_more, answer_rounds, done_so_far}
use Rattle.hall.specs.Roles.{swept_after}

swept-if : (answer : Turn) (v : Recorded) (worker gc : ℕ) → swept_after answer v worker gc
    ≡ (if is_done answer then swept v worker gc else v)
swept-if Done v worker gc = refl
swept-if NotReady v worker gc = refl
swept-if Stopped v worker gc = refl
swept-if (Fault f) v worker gc = refl
swept-if OutputFull v worker gc = refl
swept-if StepLimit v worker gc = refl

so-far : (done : Bool) (x y : Turn) → (if done then done_so_far x else done_so_far y)
    ≡ done_so_far (if done then x else y)
so-far true x y = refl
so-far false x y = refl

pub more-world : (worker gc n : ℕ) (v : Recorded) → after_more v (Both gc) worker n ≡ after_thread_rounds v worker gc n
more-world worker gc zero v = refl
more-world worker gc (suc n) v =
    let answer = picked_answer v worker in
    let done = is_done answer in
    let w = after_round v worker gc in
    ap (λ (x : Recorded). if done then after_more x (Both gc) worker n else x) (swept-if answer (picked v worker) worker
    gc)
    ∙ ap (λ (x : Recorded). if done then x else w) (more-world worker gc n w)

pub more-answer : (worker gc n : ℕ) (v : Recorded) → answer_more v (Both gc) worker n
    ≡ done_so_far (thread_rounds_answer v worker gc n)
more-answer worker gc zero v = refl
more-answer worker gc (suc n) v =
    let answer = picked_answer v worker in
    let done = is_done answer in
    let w = after_round v worker gc in
    ap (λ (x : Recorded). if done then answer_more x (Both gc) worker n else done_so_far answer)
    (swept-if answer (picked v worker) worker gc)
    ∙ ap (λ (x : Turn). if done then x else done_so_far answer) (more-answer worker gc n w)
    ∙ so-far done (thread_rounds_answer w worker gc n) answer

-- a round that was done, and so many more in one call
module _ (v mid : Recorded) (worker gc extra : ℕ) (t : Turn) (reported : t ≡ answered_by v worker (pick_of v))
    (is : mid ≡ swept_after t (turned_by v worker (pick_of v)) worker gc) (done : is_done t ≡ true) where
  abbrev w : Recorded
  w = after_allowed v (Both gc) worker

  first : mid ≡ w
  first = is ∙ ap (λ (a : Turn). swept_after a (turned_by v worker (pick_of v)) worker gc) reported

  so : is_done (answered_by v worker (pick_of v)) ≡ true
  so = ap is_done (sym reported) ∙ done

  pub rounds-world : after_thread_rounds mid worker gc extra ≡ after_rounds v (Both gc) worker extra
  rounds-world =
      ap (λ (x : Recorded). after_thread_rounds x worker gc extra) first
      ∙ sym (more-world worker gc extra w)
      ∙ sym (ap (λ b. if b then after_more w (Both gc) worker extra else w) so)

  pub rounds-answer : done_so_far (thread_rounds_answer mid worker gc extra) ≡ answer_rounds v (Both gc) worker extra
  rounds-answer =
      ap (λ (x : Recorded). done_so_far (thread_rounds_answer x worker gc extra)) first
      ∙ sym (more-answer worker gc extra w)
      ∙ sym (ap (λ b. if b then answer_more w (Both gc) worker extra else answered_by v worker (pick_of v)) so)
