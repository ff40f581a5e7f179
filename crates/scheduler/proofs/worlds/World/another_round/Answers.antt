use Rattle.std.proofs.Common.{ap, arith, ◌∙◌}
use Rattle.model.specs.Machines.{Recorded}
use Rattle.scheduler.proofs.Bursts.{workers-picked}
use Rattle.scheduler.proofs.worlds.World.another_round.Goals as goal

pub sweep-requires : goal.sweep-requires
sweep-requires c =
    let workers = ap (λ (v : Recorded). v.journal.workers) c.turn_of_ready-answer.ensures.world
    ∙ workers-picked c.args.self.now c.args.worker in
    omega (arith, workers, c.requires)

pub returns-then-is_done-clause-workers : goal.returns-then-is_done-clause-workers
returns-then-is_done-clause-workers c =
    c.sweep.ensures.workers ∙ ap (λ (v : Recorded). v.journal.workers) c.turn_of_ready-answer.ensures.world
    ∙ workers-picked c.args.self.now c.args.worker

pub returns-else-is_done-clause-workers : goal.returns-else-is_done-clause-workers
returns-else-is_done-clause-workers c =
    ap (λ (v : Recorded). v.journal.workers) c.turn_of_ready-answer.ensures.world
    ∙ workers-picked c.args.self.now c.args.worker
