use Rattle.std.proofs.Common.{◌≡◌, ◌-◌, ◌∙◌, ap, arith, suc, sym, true, false}
use Rattle.model.specs.Machines.{Recorded}
use Rattle.scheduler.specs.Rounds.{after_rounds, is_done, rounds_answer, rounds_left}
use Rattle.scheduler.proofs.RoundsLeft.{answer-first, left-first, rounds-first}
use Rattle.scheduler.proofs.RoundsWithSweeps.{all-whole, answer-begun, answer-whole, left-begun, left-whole}
use Rattle.scheduler.proofs.RoundsWithSweeps.{world-begun, world-whole}
use Rattle.scheduler.proofs.worlds.World.rounds_and_sweeps.Goals as goal

pub returns-then-left-eq0-clause-world : goal.returns-then-left-eq0-clause-world
returns-then-left-eq0-clause-world c =
    let at = c.rounds in
    let w = c.args.worker in
    let gc = c.args.gc in
    let made = c.some_rounds-rounds in
    let mid = made.new.self in
    let rounds = made.result in
    let whole = all-whole rounds.begun rounds.made at.left made.ensures.begun c.if-left-eq0.true in
    ap (after_rounds mid w gc) (sym c.if-left-eq0.true)
    ∙ sym (world-whole at.self mid w gc rounds at.left made.ensures.rounds made.ensures.most whole)
    ∙ at.invariant.world

pub returns-then-left-eq0-clause-answer : goal.returns-then-left-eq0-clause-answer
returns-then-left-eq0-clause-answer c =
    let at = c.rounds in
    let w = c.args.worker in
    let gc = c.args.gc in
    let made = c.some_rounds-rounds in
    let mid = made.new.self in
    let rounds = made.result in
    let whole = all-whole rounds.begun rounds.made at.left made.ensures.begun c.if-left-eq0.true in
    ap (rounds_answer mid w gc) (sym c.if-left-eq0.true)
    ∙ sym (answer-whole at.self mid w gc rounds at.left made.ensures.rounds made.ensures.most whole)
    ∙ at.invariant.answer

pub returns-then-left-eq0-clause-left : goal.returns-then-left-eq0-clause-left
returns-then-left-eq0-clause-left c =
    let at = c.rounds in
    let w = c.args.worker in
    let gc = c.args.gc in
    let made = c.some_rounds-rounds in
    let mid = made.new.self in
    let rounds = made.result in
    let whole = all-whole rounds.begun rounds.made at.left made.ensures.begun c.if-left-eq0.true in
    c.if-left-eq0.true
    ∙ ap (rounds_left mid w gc) (sym c.if-left-eq0.true)
    ∙ sym (left-whole at.self mid w gc rounds at.left made.ensures.rounds made.ensures.most whole)
    ∙ at.invariant.left

pub returns-then-not-is_done-clause-world : goal.returns-then-not-is_done-clause-world
returns-then-not-is_done-clause-world c =
    let at = c.rounds in
    let w = c.args.worker in
    let gc = c.args.gc in
    let made = c.some_rounds-rounds in
    let mid = made.new.self in
    let rounds = made.result in
    let left = at.left - rounds.made in
    let next : left ≡ suc (left - 1) = omega (arith, c.if-left-eq0.false) in
    let done = ap is_done (sym c.another_round-answer.ensures.answer) ∙ sym c.is_done.ensures ∙ c.if-not-is_done.true in
    c.another_round-answer.ensures.world
    ∙ sym (rounds-first mid w gc left (left - 1) next false done)
    ∙ sym (world-whole at.self mid w gc rounds at.left made.ensures.rounds made.ensures.most c.if-rounds.false)
    ∙ at.invariant.world

pub returns-then-not-is_done-clause-answer : goal.returns-then-not-is_done-clause-answer
returns-then-not-is_done-clause-answer c =
    let at = c.rounds in
    let w = c.args.worker in
    let gc = c.args.gc in
    let made = c.some_rounds-rounds in
    let mid = made.new.self in
    let rounds = made.result in
    let left = at.left - rounds.made in
    let next : left ≡ suc (left - 1) = omega (arith, c.if-left-eq0.false) in
    let done = ap is_done (sym c.another_round-answer.ensures.answer) ∙ sym c.is_done.ensures ∙ c.if-not-is_done.true in
    c.another_round-answer.ensures.answer
    ∙ sym (answer-first mid w gc left (left - 1) next false done)
    ∙ sym (answer-whole at.self mid w gc rounds at.left made.ensures.rounds made.ensures.most c.if-rounds.false)
    ∙ at.invariant.answer

pub returns-then-not-is_done-clause-left : goal.returns-then-not-is_done-clause-left
returns-then-not-is_done-clause-left c =
    let at = c.rounds in
    let w = c.args.worker in
    let gc = c.args.gc in
    let made = c.some_rounds-rounds in
    let mid = made.new.self in
    let rounds = made.result in
    let left = at.left - rounds.made in
    let next : left ≡ suc (left - 1) = omega (arith, c.if-left-eq0.false) in
    let done = ap is_done (sym c.another_round-answer.ensures.answer) ∙ sym c.is_done.ensures ∙ c.if-not-is_done.true in
    sym (left-first mid w gc left (left - 1) next false done)
    ∙ sym (left-whole at.self mid w gc rounds at.left made.ensures.rounds made.ensures.most c.if-rounds.false)
    ∙ at.invariant.left

pub rounds-preserved-then-rounds : goal.rounds-preserved-then-rounds
rounds-preserved-then-rounds c =
    let at = c.rounds in
    let w = c.args.worker in
    let gc = c.args.gc in
    let made = c.some_rounds-rounds in
    let mid = made.new.self in
    let rounds = made.result in
    let left = at.left - rounds.made in
    let next : left ≡ suc (left - 1) = omega (arith, c.if-left-eq0.false) in
    record {
      known = omega (arith, c.sweep.ensures.workers, made.ensures.workers, at.invariant.known);
      world =
          ap (λ (v : Recorded). after_rounds v w gc (left - 1)) c.sweep.ensures.world
          ∙ sym (world-begun at.self mid w gc rounds at.left made.ensures.rounds made.ensures.most c.if-rounds.true
          (left - 1) next)
          ∙ at.invariant.world;
      answer =
          ap (λ (v : Recorded). rounds_answer v w gc (left - 1)) c.sweep.ensures.world
          ∙ sym (answer-begun at.self mid w gc rounds at.left made.ensures.rounds made.ensures.most c.if-rounds.true
          (left - 1) next)
          ∙ at.invariant.answer;
      left =
          ap (λ (v : Recorded). rounds_left v w gc (left - 1)) c.sweep.ensures.world
          ∙ sym (left-begun at.self mid w gc rounds at.left made.ensures.rounds made.ensures.most c.if-rounds.true
          (left - 1) next)
          ∙ at.invariant.left;
    }

pub rounds-preserved : goal.rounds-preserved
rounds-preserved c =
    let at = c.rounds in
    let w = c.args.worker in
    let gc = c.args.gc in
    let made = c.some_rounds-rounds in
    let mid = made.new.self in
    let rounds = made.result in
    let left = at.left - rounds.made in
    let next : left ≡ suc (left - 1) = omega (arith, c.if-left-eq0.false) in
    let done = ap is_done (sym c.another_round-answer.ensures.answer) ∙ sym c.is_done.ensures ∙ c.if-not-is_done.false
    in
    record {
      known = omega (arith, c.another_round-answer.ensures.workers, made.ensures.workers, at.invariant.known);
      world =
          ap (λ (v : Recorded). after_rounds v w gc (left - 1)) c.another_round-answer.ensures.world
          ∙ sym (rounds-first mid w gc left (left - 1) next true done)
          ∙ sym (world-whole at.self mid w gc rounds at.left made.ensures.rounds made.ensures.most c.if-rounds.false)
          ∙ at.invariant.world;
      answer =
          ap (λ (v : Recorded). rounds_answer v w gc (left - 1)) c.another_round-answer.ensures.world
          ∙ sym (answer-first mid w gc left (left - 1) next true done)
          ∙ sym (answer-whole at.self mid w gc rounds at.left made.ensures.rounds made.ensures.most c.if-rounds.false)
          ∙ at.invariant.answer;
      left =
          ap (λ (v : Recorded). rounds_left v w gc (left - 1)) c.another_round-answer.ensures.world
          ∙ sym (left-first mid w gc left (left - 1) next true done)
          ∙ sym (left-whole at.self mid w gc rounds at.left made.ensures.rounds made.ensures.most c.if-rounds.false)
          ∙ at.invariant.left;
    }
