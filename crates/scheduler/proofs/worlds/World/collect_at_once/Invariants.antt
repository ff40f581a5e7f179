use Rattle.std.specs.Prelude.{◌≡◌, ◌≤◌, ◌+◌, ◌-◌, None}
use Rattle.model.specs.Observers.{ideal}
use Rattle.scheduler.specs.Rounds.{collections}
use Rattle.scheduler.proofs.worlds.World.collect_at_once.Given as goal

-- the turns that are left lead to where all lead, and nothing refuses them
abbrev pub invariant-loop-turn : goal.invariant-loop-turn
invariant-loop-turn l = record {
  workers : l.self.journal.workers ≡ l.initial.self.journal.workers;
  world : collections l.self l.worker (l.turns - l._turn) ≡ collections l.initial.self l.worker l.turns;
  faultless : (ideal l.self).fault ≡ None;
  room : (ideal l.self).rows + (l.turns - l._turn) ≤ l.self.journal.limits.steps;
}
