use Rattle.std.proofs.Common.{◌≡◌, ◌∙◌, ◌+◌, ℕ, ap, arith, refl, subst, suc, sym, true, false}
use Rattle.std.proofs.lemmas.Bool.{false≢true, leb-true}
use Rattle.model.specs.Machines.{Recorded}
use Rattle.model.specs.Observers.{ideal}
use Rattle.model.specs.Ready.{is_ready}
use Rattle.instructions.specs.Idle.{AreIdle}
use Rattle.instructions.proofs.IdleLemmas.{none-idle}
use Rattle.scheduler.specs.Rounds.{LeadsOn, PickedPast, RoundsPast, is_done}
use Rattle.scheduler.proofs.Bursts.{leads-more, leads-none, workers-picked}
use Rattle.scheduler.proofs.Idling.{idle-collected, ready-collected}
use Rattle.scheduler.proofs.PastStops.{round-past}
use Rattle.scheduler.proofs.Picking.{ready_runs}
use Rattle.scheduler.proofs.worlds.World.rounds_in_turn.Goals as goal

pub loop-made-init : goal.loop-made-init
loop-made-init c =
    let v = c.args.self.now in
    record {
      workers = refl;
      alone = λ _. leads-none v c.args.pace.worker 0;
      past = λ _. refl;
      ready = c.in-Some.ensures;
      idle = none-idle v.program (ideal v) c.none-idle.result c.none-idle.ensures;
    }

pub returns-in_default-clause-past : goal.returns-in_default-clause-past
returns-in_default-clause-past c = λ _. (c.args.self.now, refl, refl)

-- of a thread's turn alone
pub loop-made-preserved-then-not-asks : goal.loop-made-preserved-then-not-asks
loop-made-preserved-then-not-asks c =
    let at = c.loop-made in
    let w = c.args.pace.worker in
    let turn = c.in-Some-turn_plainly.ensures in
    let new = c.turn_plainly.new.self in
    let more : suc at.made ≡ at.made + 1 = omega arith in
    record {
      workers = ap (λ (v : Recorded). v.journal.workers) turn.made ∙ workers-picked at.self w ∙ at.invariant.workers;
      alone = λ alone. subst (λ (n : ℕ). LeadsOn c.args.self.now w 0 n new) more
          (leads-more c.args.self.now at.self new w at.made (at.invariant.alone alone) turn.made turn.done);
      past = λ asks. absurd (false≢true (sym c.if-not-asks.true ∙ asks));
      ready = λ asks. absurd (false≢true (sym c.if-not-asks.true ∙ asks));
      idle = c.turn_plainly.ensures.idle;
    }

pub returns-in_default-ready_after-clause-workers : goal.returns-in_default-ready_after-clause-workers
returns-in_default-ready_after-clause-workers c =
    ap (λ (v : Recorded). v.journal.workers) c.in-Some-turn_plainly.ensures.made
    ∙ workers-picked c.loop-made.self c.args.pace.worker ∙ c.loop-made.invariant.workers

pub returns-then-not-has_room-clause-workers : goal.returns-then-not-has_room-clause-workers
returns-then-not-has_room-clause-workers c =
    ap (λ (v : Recorded). v.journal.workers) c.in-Some-turn_plainly.ensures.made
    ∙ workers-picked c.loop-made.self c.args.pace.worker ∙ c.loop-made.invariant.workers

pub collect_at_once-requires-clause-worker : goal.collect_at_once-requires-clause-worker
collect_at_once-requires-clause-worker c =
    let workers = ap (λ (v : Recorded). v.journal.workers) c.in-Some-turn_plainly.ensures.made
    ∙ workers-picked c.loop-made.self c.args.pace.worker ∙ c.loop-made.invariant.workers in
    omega (arith, workers, c.requires)

-- and of a whole round
pub loop-made-preserved : goal.loop-made-preserved
loop-made-preserved c =
    let at = c.loop-made in
    let p = c.args.pace in
    let turn = c.in-Some-turn_plainly.ensures in
    let mid = c.turn_plainly.new.self in
    let new = c.collect_at_once.new.self in
    let known = c.turn_plainly.new.idle in
    let next = c.in-Some-ready_after.next in
    let runs = ready_runs mid.program (ideal mid) next c.in-Some-ready_after.ensures in
    let fits = leb-true ((ideal mid).rows + p.gc) mid.journal.limits.steps
    (sym c.has_room.ensures ∙ c.if-not-has_room.false) in
    let past : PickedPast p.stops at.self p.worker true mid = (turn.past, turn.made, ap is_done turn.done) in
    let round = round-past p.stops at.self mid new p.worker p.gc past runs fits c.collect_at_once.ensures.world in
    let more : suc at.made ≡ at.made + 1 = omega arith in
    record {
      workers = c.collect_at_once.ensures.workers ∙ ap (λ (v : Recorded). v.journal.workers) turn.made
          ∙ workers-picked at.self p.worker ∙ at.invariant.workers;
      alone = λ alone. absurd (false≢true (sym alone ∙ c.if-not-asks.false));
      past = λ asks. subst (λ (n : ℕ). RoundsPast p.stops c.args.self.now p.worker p.gc n new) more
          (at.self, at.invariant.past asks, round);
      ready = λ _. subst (λ (v : Recorded). is_ready v.program (ideal v) next ≡ true) (sym c.collect_at_once.ensures.world)
          (ready-collected mid p.worker p.gc next ∙ c.in-Some-ready_after.ensures);
      idle = subst (λ (v : Recorded). AreIdle v.program (ideal v) known) (sym c.collect_at_once.ensures.world)
          (idle-collected mid p.worker p.gc known c.turn_plainly.ensures.idle);
    }
