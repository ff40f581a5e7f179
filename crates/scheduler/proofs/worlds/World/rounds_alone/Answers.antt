use Rattle.std.proofs.Common.{◌≡◌, ◌-◌, ◌∙◌, ap, arith, suc, sym, true, false}
use Rattle.model.specs.Machines.{Recorded}
use Rattle.scheduler.specs.Rounds.{after_rounds, is_done, rounds_answer, rounds_left}
use Rattle.scheduler.proofs.Bursts.{answer-first, answer-left, left-first, left-left, workers-picked}
use Rattle.scheduler.proofs.Bursts.{world-first, world-left}
use Rattle.scheduler.proofs.worlds.World.rounds_alone.Goals as goal

pub rounds-preserved : goal.rounds-preserved
rounds-preserved c =
    let at = c.rounds in
    let w = c.args.worker in
    let mid = c.rounds_plainly-made.new.self in
    let made = c.rounds_plainly-made.result in
    let left = at.left - made in
    let next : left ≡ suc (left - 1) = omega (arith, c.if-left-eq0.false) in
    let done = ap is_done (sym c.turn_of_ready-answer.ensures.answer) ∙ sym c.is_done.ensures ∙ c.if-not-is_done.false in
    let workers = ap (λ (v : Recorded). v.journal.workers) c.turn_of_ready-answer.ensures.world ∙ workers-picked mid w
    ∙ c.rounds_plainly-made.ensures.workers in
    record {
      known = omega (arith, workers, at.invariant.known);
      world =
          ap (λ (v : Recorded). after_rounds v w 0 (left - 1)) c.turn_of_ready-answer.ensures.world
          ∙ sym (world-first mid w left (left - 1) next true done)
          ∙ sym (world-left at.self mid w 0 made at.left c.rounds_plainly-made.ensures.rounds
          c.rounds_plainly-made.ensures.most)
          ∙ at.invariant.world;
      answer =
          ap (λ (v : Recorded). rounds_answer v w 0 (left - 1)) c.turn_of_ready-answer.ensures.world
          ∙ sym (answer-first mid w left (left - 1) next true done)
          ∙ sym (answer-left at.self mid w 0 made at.left c.rounds_plainly-made.ensures.rounds
          c.rounds_plainly-made.ensures.most)
          ∙ at.invariant.answer;
      left =
          ap (λ (v : Recorded). rounds_left v w 0 (left - 1)) c.turn_of_ready-answer.ensures.world
          ∙ sym (left-first mid w left (left - 1) next true done)
          ∙ sym (left-left at.self mid w 0 made at.left c.rounds_plainly-made.ensures.rounds
          c.rounds_plainly-made.ensures.most)
          ∙ at.invariant.left;
    }

pub returns-then-left-eq0-clause-world : goal.returns-then-left-eq0-clause-world
returns-then-left-eq0-clause-world c =
    let at = c.rounds in
    let w = c.args.worker in
    let mid = c.rounds_plainly-made.new.self in
    ap (after_rounds mid w 0) (sym c.if-left-eq0.true)
    ∙ sym (world-left at.self mid w 0 c.rounds_plainly-made.result at.left c.rounds_plainly-made.ensures.rounds
    c.rounds_plainly-made.ensures.most)
    ∙ at.invariant.world

pub returns-then-left-eq0-clause-answer : goal.returns-then-left-eq0-clause-answer
returns-then-left-eq0-clause-answer c =
    let at = c.rounds in
    let w = c.args.worker in
    let mid = c.rounds_plainly-made.new.self in
    ap (rounds_answer mid w 0) (sym c.if-left-eq0.true)
    ∙ sym (answer-left at.self mid w 0 c.rounds_plainly-made.result at.left c.rounds_plainly-made.ensures.rounds
    c.rounds_plainly-made.ensures.most)
    ∙ at.invariant.answer

pub returns-then-left-eq0-clause-left : goal.returns-then-left-eq0-clause-left
returns-then-left-eq0-clause-left c =
    let at = c.rounds in
    let w = c.args.worker in
    let mid = c.rounds_plainly-made.new.self in
    c.if-left-eq0.true
    ∙ ap (rounds_left mid w 0) (sym c.if-left-eq0.true)
    ∙ sym (left-left at.self mid w 0 c.rounds_plainly-made.result at.left c.rounds_plainly-made.ensures.rounds
    c.rounds_plainly-made.ensures.most)
    ∙ at.invariant.left

pub returns-then-not-is_done-clause-world : goal.returns-then-not-is_done-clause-world
returns-then-not-is_done-clause-world c =
    let at = c.rounds in
    let w = c.args.worker in
    let mid = c.rounds_plainly-made.new.self in
    let made = c.rounds_plainly-made.result in
    let left = at.left - made in
    let next : left ≡ suc (left - 1) = omega (arith, c.if-left-eq0.false) in
    let done = ap is_done (sym c.turn_of_ready-answer.ensures.answer) ∙ sym c.is_done.ensures ∙ c.if-not-is_done.true in
    c.turn_of_ready-answer.ensures.world
    ∙ sym (world-first mid w left (left - 1) next false done)
    ∙ sym (world-left at.self mid w 0 made at.left c.rounds_plainly-made.ensures.rounds
    c.rounds_plainly-made.ensures.most)
    ∙ at.invariant.world

pub returns-then-not-is_done-clause-answer : goal.returns-then-not-is_done-clause-answer
returns-then-not-is_done-clause-answer c =
    let at = c.rounds in
    let w = c.args.worker in
    let mid = c.rounds_plainly-made.new.self in
    let made = c.rounds_plainly-made.result in
    let left = at.left - made in
    let next : left ≡ suc (left - 1) = omega (arith, c.if-left-eq0.false) in
    let done = ap is_done (sym c.turn_of_ready-answer.ensures.answer) ∙ sym c.is_done.ensures ∙ c.if-not-is_done.true in
    c.turn_of_ready-answer.ensures.answer
    ∙ sym (answer-first mid w left (left - 1) next false done)
    ∙ sym (answer-left at.self mid w 0 made at.left c.rounds_plainly-made.ensures.rounds
    c.rounds_plainly-made.ensures.most)
    ∙ at.invariant.answer

pub returns-then-not-is_done-clause-left : goal.returns-then-not-is_done-clause-left
returns-then-not-is_done-clause-left c =
    let at = c.rounds in
    let w = c.args.worker in
    let mid = c.rounds_plainly-made.new.self in
    let made = c.rounds_plainly-made.result in
    let left = at.left - made in
    let next : left ≡ suc (left - 1) = omega (arith, c.if-left-eq0.false) in
    let done = ap is_done (sym c.turn_of_ready-answer.ensures.answer) ∙ sym c.is_done.ensures ∙ c.if-not-is_done.true in
    sym (left-first mid w left (left - 1) next false done)
    ∙ sym (left-left at.self mid w 0 made at.left c.rounds_plainly-made.ensures.rounds
    c.rounds_plainly-made.ensures.most)
    ∙ at.invariant.left
