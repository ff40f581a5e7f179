use Rattle.std.proofs.Common.{◌≡◌, ℕ, List, [], Option, Result}
use Rattle.model.specs.Machines.{Recorded}
use Rattle.debugger.specs.declared.errors.DebugError.{DebugError}
use Rattle.debugger.specs.Sessions.{SessionBy, debugged}
use Rattle.debugger.proofs.sessions.hold_session.Given as goal

-- a session from here on is one from the start on
abbrev pub invariant-lines : goal.invariant-lines
invariant-lines g l = record {
  session : (result : Result (Unit {0}) DebugError) (w : Recorded) (after now : Option (List ℕ))
      → SessionBy g.E.Executor.does result (debugged l.world l.breakpoints.slots) w (g.R.Source.remaining l.source) after
      (g.W.Sink.contents l.sink) now
      → SessionBy g.E.Executor.does result (debugged l.initial.world []) w (g.R.Source.remaining l.initial.source) after
      (g.W.Sink.contents l.initial.sink) now;
  reads : g.R.Source.failures l.source ≡ g.R.Source.failures l.initial.source;
  writes : g.W.Sink.failures l.sink ≡ g.W.Sink.failures l.initial.sink;
}

abbrev pub decreases-lines : goal.decreases-lines
decreases-lines g l = g.R.Source.patience l.source
