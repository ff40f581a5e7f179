use Rattle.std.proofs.Common.{◌≡◌, ◌-◌, ◌<◌}
use Rattle.hall.specs.Roles.{after_bursts, answer_bursts}
use Rattle.hall.specs.Shares.{CountsRows}
use Rattle.hall.proofs.shares.Shared.carry_again.Given as goal

-- the rounds that are left lead to where all lead, and answer what all answer
abbrev pub invariant-loop-burst : goal.invariant-loop-burst
invariant-loop-burst g l = record {
  rest : after_bursts l.self l.share.worker l.due l.burst.extra (l.burst.again - l._burst)
      ≡ after_bursts l.initial.self l.initial.share.worker l.due l.burst.extra l.burst.again;
  answer : answer_bursts l.self l.share.worker l.due l.burst.extra (l.burst.again - l._burst)
      ≡ answer_bursts l.initial.self l.initial.share.worker l.due l.burst.extra l.burst.again;
  counted : CountsRows l.initial.self l.self l.initial.share l.share;
  below : l.share.worker < l.self.journal.workers;
}
