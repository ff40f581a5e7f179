use Rattle.std.specs.Prelude.{◌≡◌, false, true}
use Rattle.model.specs.Observers.{ideal}
use Rattle.model.specs.Ready.{is_ready}
use Rattle.instructions.specs.Idle.{AreIdle}
use Rattle.scheduler.specs.Rounds.{LeadsOn, RoundsPast}
use Rattle.scheduler.proofs.worlds.World.rounds_in_turn.Given as goal

-- the rounds that were made lead on, or were made whole and began at no stop, one thread is known to be ready, and some
-- not to be
abbrev pub invariant-loop-made : goal.invariant-loop-made
invariant-loop-made l = record {
  workers : l.self.journal.workers ≡ l.initial.self.journal.workers;
  alone : l.asks ≡ false → LeadsOn l.initial.self l.pace.worker 0 l.made l.self;
  past : l.asks ≡ true → RoundsPast l.pace.stops l.initial.self l.pace.worker l.pace.gc l.made l.self;
  ready : l.asks ≡ true → is_ready l.self.program (ideal l.self) l.ready ≡ true;
  idle : AreIdle l.self.program (ideal l.self) l.idle;
}
