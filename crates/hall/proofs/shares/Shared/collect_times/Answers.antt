use Rattle.std.proofs.Common.{◌∙◌, sym, ap, ◌-◌, ◌+◌, ℕ}
use Rattle.model.specs.Machines.{Recorded}
use Rattle.scheduler.specs.Rounds.{collections}
use Rattle.scheduler.proofs.RoundsLeft.{collections-more}
use Rattle.hall.proofs.Rows.{counts_on, still_known}
use Rattle.hall.proofs.shares.Shared.collect_times.Goals as goal

pub loop-turn-preserved : goal.loop-turn-preserved
loop-turn-preserved g c =
    let at = c.loop-turn in
    let now = c.make.new in
    let once = c.make.ensures in
    let left = c.args.turns - (at._turn + 1) in
    record {
      rest =
          ap (λ (worker : ℕ). collections now.self worker left) once.share.worker_is
          ∙ ap (λ (w : Recorded). collections w at.share.worker left) once.world
          ∙ sym (collections-more at.self at.share.worker c.args.turns at._turn c.loop-turn-test.true)
          ∙ at.invariant.rest;
      counted = counts_on _ _ _ _ _ _ at.invariant.counted once.share;
      below = still_known _ _ _ _ once.share at.invariant.below;
    }
