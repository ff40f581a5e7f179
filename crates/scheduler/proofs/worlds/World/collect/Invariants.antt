use Rattle.std.specs.Prelude.{◌≡◌, ◌-◌}
use Rattle.scheduler.specs.Rounds.{collections}
use Rattle.scheduler.proofs.worlds.World.collect.Given as goal

-- the turns that are left lead to where all lead
abbrev pub invariant-loop-turn : goal.invariant-loop-turn
invariant-loop-turn l = record {
  workers : l.self.journal.workers ≡ l.initial.self.journal.workers;
  world : collections l.self l.worker (l.turns - l._turn) ≡ collections l.initial.self l.worker l.turns;
}
