use Rattle.std.proofs.Common.{◌≡◌, drop}
use Rattle.model.specs.Monitors.{released_all}
use Rattle.ideal_run.proofs.unwinding.release_all.Given as goal

-- those that are left are released
abbrev pub invariant-loop-monitor : goal.invariant-loop-monitor
invariant-loop-monitor l = released_all l.fn.world l.thread l.monitors
    ≡ released_all l.world l.thread (drop l.monitor-index l.monitors)
