use Rattle.std.proofs.Common.{ap, sym, ◌∙◌, ◌-◌, ◌+◌}
use Rattle.model.specs.declared.turns.Actor.TheVariants.{Collector}
use Rattle.model.specs.Machines.{Recorded}
use Rattle.scheduler.specs.Rounds.{collections}
use Rattle.scheduler.proofs.Bursts.{workers-after}
use Rattle.scheduler.proofs.RoundsLeft.{collections-more}
use Rattle.scheduler.proofs.worlds.World.collect.Goals as goal

pub loop-turn-preserved : goal.loop-turn-preserved
loop-turn-preserved c =
    let at = c.loop-turn in
    record {
      workers = ap (λ (v : Recorded). v.journal.workers) c.turn_by.ensures.world
          ∙ workers-after at.self Collector c.args.worker ∙ at.invariant.workers;
      world =
          ap (λ (v : Recorded). collections v c.args.worker (c.args.turns - (at._turn + 1))) c.turn_by.ensures.world
          ∙ sym (collections-more at.self c.args.worker c.args.turns at._turn c.loop-turn-test.true)
          ∙ at.invariant.world;
    }
