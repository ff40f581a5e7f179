use Rattle.std.proofs.Common.{◌≡◌, ◌∙◌, ◌<◌, ◌≤◌, ◌+◌, ◌-◌, None, ap, arith, subst, sym}
use Rattle.model.specs.declared.journals.Limits.{Limits}
use Rattle.model.specs.declared.turns.Actor.TheVariants.{Collector}
use Rattle.model.specs.Machines.{Recorded, after_turn_by}
use Rattle.model.specs.Observers.{ideal}
use Rattle.scheduler.specs.Rounds.{collections}
use Rattle.scheduler.proofs.Bursts.{workers-after}
use Rattle.scheduler.proofs.Collecting.{allowed, collector_noted, fault_then, limits_then, rows_then}
use Rattle.scheduler.proofs.RoundsLeft.{collections-more}
use Rattle.scheduler.proofs.worlds.World.collect_at_once.Goals as goal

pub collector_turn-requires-clause-allowed : goal.collector_turn-requires-clause-allowed
collector_turn-requires-clause-allowed c =
    let at = c.loop-turn in
    let room = at.invariant.room in
    let test = c.loop-turn-test.true in
    allowed at.self c.args.worker at.invariant.faultless (omega (arith, room, test))

pub loop-turn-preserved : goal.loop-turn-preserved
loop-turn-preserved c =
    let at = c.loop-turn in
    let v = at.self in
    let w = c.args.worker in
    let new = c.collector_turn.new.self in
    let room = at.invariant.room in
    let test = c.loop-turn-test.true in
    let less : (ideal v).rows < v.journal.limits.steps = omega (arith, room, test) in
    let none = at.invariant.faultless in
    let after = after_turn_by v Collector w in
    let is : new ≡ after = c.collector_turn.ensures.row ∙ collector_noted v w none less in
    let rows = rows_then v w none less in
    let steps : after.journal.limits.steps ≡ v.journal.limits.steps = ap (λ (l : Limits). l.steps)
    (limits_then v w none less) in
    let fits : (ideal after).rows + (c.args.turns - (at._turn + 1)) ≤ after.journal.limits.steps =
    omega (arith, room, test, rows, steps) in
    record {
      workers = ap (λ (x : Recorded). x.journal.workers) is ∙ workers-after v Collector w ∙ at.invariant.workers;
      world =
          ap (λ (x : Recorded). collections x w (c.args.turns - (at._turn + 1))) is
          ∙ sym (collections-more v w c.args.turns at._turn test)
          ∙ at.invariant.world;
      faultless = ap (λ (x : Recorded). (ideal x).fault) is ∙ fault_then v w none less;
      room = subst (λ (x : Recorded). (ideal x).rows + (c.args.turns - (at._turn + 1)) ≤ x.journal.limits.steps)
          (sym is) fits;
    }
