use Rattle.std.proofs.Common.{◌≡◌, ◌-◌, ◌<◌}
use Rattle.hall.specs.Roles.{cycled}
use Rattle.hall.specs.Shares.{CountsRows}
use Rattle.hall.proofs.shares.Shared.end_cycle.Given as goal

-- the turns that are left lead to where all lead
abbrev pub invariant-loop-turn : goal.invariant-loop-turn
invariant-loop-turn g l = record {
  rest : cycled l.self l.share.worker (l.most - l._turn) ≡ cycled l.initial.self l.initial.share.worker l.most;
  counted : CountsRows l.initial.self l.self l.initial.share l.share;
  below : l.share.worker < l.self.journal.workers;
}
