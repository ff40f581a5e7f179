use Rattle.std.specs.Prelude.{◌≡◌, ◌<◌}
use Rattle.scheduler.specs.Rounds.{after_rounds, rounds_answer, rounds_left}
use Rattle.scheduler.proofs.worlds.World.rounds_and_sweeps.Given as goal

-- the rounds that are left lead to where all lead, answer the same, and leave as many
abbrev pub invariant-rounds : goal.invariant-rounds
invariant-rounds l = record {
  known : l.worker < l.self.journal.workers;
  world : after_rounds l.self l.worker l.gc l.left ≡ after_rounds l.initial.self l.worker l.gc l.n;
  answer : rounds_answer l.self l.worker l.gc l.left ≡ rounds_answer l.initial.self l.worker l.gc l.n;
  left : rounds_left l.self l.worker l.gc l.left ≡ rounds_left l.initial.self l.worker l.gc l.n;
}

abbrev pub decreases-rounds : goal.decreases-rounds
decreases-rounds l = l.left
