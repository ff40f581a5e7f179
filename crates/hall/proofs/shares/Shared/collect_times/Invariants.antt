use Rattle.std.proofs.Common.{◌≡◌, ◌-◌, ◌<◌}
use Rattle.scheduler.specs.Rounds.{collections}
use Rattle.hall.specs.Shares.{CountsRows}
use Rattle.hall.proofs.shares.Shared.collect_times.Given as goal

-- the turns that are left lead to where all lead
abbrev pub invariant-loop-turn : goal.invariant-loop-turn
invariant-loop-turn g l = record {
  rest : collections l.self l.share.worker (l.turns - l._turn) ≡ collections l.initial.self l.initial.share.worker
      l.turns;
  counted : CountsRows l.initial.self l.self l.initial.share l.share;
  below : l.share.worker < l.self.journal.workers;
}
