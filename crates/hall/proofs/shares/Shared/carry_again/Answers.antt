use Rattle.std.proofs.Common.{◌≡◌, ◌∙◌, ◌-◌, ◌+◌, ℕ, Bool, sym, ap, arith, false, true}
use Rattle.model.specs.declared.turns.Turn.{Turn}
use Rattle.model.specs.Machines.{Recorded}
use Rattle.model.specs.Observers.{next_birth_of}
use Rattle.hall.specs.Roles.{after_bursts, answer_bursts, done_so_far, goes_on}
use Rattle.hall.proofs.Rows.{answers_end, answers_left, bursts_end, bursts_left, counts_on, still_known}
use Rattle.hall.proofs.shares.Shared.carry_again.Goals as goal

-- what was asked, said of the world after the rounds
asked : (w : Recorded) (t : Turn) (next due : ℕ) (b : Bool) → next ≡ next_birth_of w → b ≡ goes_on t next due
    → (c : Bool) → b ≡ c → goes_on t (next_birth_of w) due ≡ c
asked w t next due b at is c e = ap (λ (n : ℕ). goes_on t n due) (sym at) ∙ sym is ∙ e

pub returns-then-not-goes_on-clause-world : goal.returns-then-not-goes_on-clause-world
returns-then-not-goes_on-clause-world g c =
    let at = c.loop-burst in
    let r = c.carry_on-answer in
    let burst = c.args.burst in
    let off = asked r.new.self r.result _ c.args.due _ c.next_birth.ensures c.goes_on.ensures false
    c.if-not-goes_on.true in
    sym (bursts_end at.self r.new.self at.share.worker c.args.due burst.extra burst.again at._burst
    c.loop-burst-test.true r.result r.ensures.world r.ensures.answer off)
    ∙ at.invariant.rest

pub returns-then-not-goes_on-clause-answer : goal.returns-then-not-goes_on-clause-answer
returns-then-not-goes_on-clause-answer g c =
    let at = c.loop-burst in
    let r = c.carry_on-answer in
    let burst = c.args.burst in
    let off = asked r.new.self r.result _ c.args.due _ c.next_birth.ensures c.goes_on.ensures false
    c.if-not-goes_on.true in
    c.done_so_far.ensures
    ∙ sym (answers_end at.self r.new.self at.share.worker c.args.due burst.extra burst.again at._burst
    c.loop-burst-test.true r.result r.ensures.world r.ensures.answer off)
    ∙ at.invariant.answer

pub returns-clause-answer : goal.returns-clause-answer
returns-clause-answer g c =
    let at = c.loop-burst in
    let burst = c.args.burst in
    let past = c.loop-burst-test.false in
    let none : burst.again - at._burst ≡ 0 = omega (arith, past) in
    c.done_so_far-2.ensures
    ∙ ap done_so_far c.carry_on.ensures.answer
    ∙ ap (answer_bursts at.self at.share.worker c.args.due burst.extra) (sym none)
    ∙ at.invariant.answer

pub loop-burst-preserved : goal.loop-burst-preserved
loop-burst-preserved g c =
    let at = c.loop-burst in
    let r = c.carry_on-answer in
    let burst = c.args.burst in
    let left = burst.again - (at._burst + 1) in
    let on = asked r.new.self r.result _ c.args.due _ c.next_birth.ensures c.goes_on.ensures true c.if-not-goes_on.false
    in
    record {
      rest =
          ap (λ (worker : ℕ). after_bursts r.new.self worker c.args.due burst.extra left) r.ensures.share.worker_is
          ∙ sym (bursts_left at.self r.new.self at.share.worker c.args.due burst.extra burst.again at._burst
          c.loop-burst-test.true r.result r.ensures.world r.ensures.answer on)
          ∙ at.invariant.rest;
      answer =
          ap (λ (worker : ℕ). answer_bursts r.new.self worker c.args.due burst.extra left) r.ensures.share.worker_is
          ∙ sym (answers_left at.self r.new.self at.share.worker c.args.due burst.extra burst.again at._burst
          c.loop-burst-test.true r.result r.ensures.world r.ensures.answer on)
          ∙ at.invariant.answer;
      counted = counts_on _ _ _ _ _ _ at.invariant.counted r.ensures.share;
      below = still_known _ _ _ _ r.ensures.share at.invariant.below;
    }
