use Rattle.std.proofs.Common.{◌∙◌, sym, ap, ◌-◌, ◌+◌, ℕ}
use Rattle.hall.specs.Roles.{cycled}
use Rattle.hall.proofs.Rows.{counts_on, cycled_ends, cycled_more, still_known}
use Rattle.hall.proofs.shares.Shared.end_cycle.Goals as goal

pub returns-then-is_idle-clause-world : goal.returns-then-is_idle-clause-world
returns-then-is_idle-clause-world g c =
    let at = c.loop-turn in
    sym (cycled_ends at.self at.share.worker c.args.most at._turn c.loop-turn-test.true (sym c.is_idle.ensures
    ∙ c.if-is_idle.true)) ∙ at.invariant.rest

pub loop-turn-preserved : goal.loop-turn-preserved
loop-turn-preserved g c =
    let at = c.loop-turn in
    let now = c.sweep_once.new in
    let once = c.sweep_once.ensures in
    let left = c.args.most - (at._turn + 1) in
    record {
      rest =
          ap (λ (worker : ℕ). cycled now.self worker left) once.share.worker_is
          ∙ ap (λ (w : _). cycled w at.share.worker left) once.world
          ∙ sym (cycled_more at.self at.share.worker c.args.most at._turn c.loop-turn-test.true (sym c.is_idle.ensures
          ∙ c.if-is_idle.false))
          ∙ at.invariant.rest;
      counted = counts_on _ _ _ _ _ _ at.invariant.counted once.share;
      below = still_known _ _ _ _ once.share at.invariant.below;
    }
