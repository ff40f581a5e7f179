use Rattle.exploring.specs.Ahead.{WentAhead}
use Rattle.exploring.proofs.ahead.steps_ahead.Given as goal

-- so many steps were made
abbrev pub invariant-loop-step : goal.invariant-loop-step
invariant-loop-step l = WentAhead l.transitions.program l.thread l.step l.fn.world l.world
