use Rattle.std.proofs.Common.{[]}
use Rattle.debugger.specs.Sessions.{debugged}
use Rattle.debugger.proofs.Actors.{led_session}
use Rattle.debugger.proofs.sessions.debug.Goals as goal

pub returns-clause-turns : goal.returns-clause-turns
returns-clause-turns g c =
    led_session c.hold_session.result (debugged c.args.world.now []) c.hold_session.new.world
    (g.R.Source.remaining c.args.source.now) (g.R.Source.remaining c.hold_session.new.source)
    (g.W.Sink.contents c.args.sink.now) (g.W.Sink.contents c.hold_session.new.sink) c.hold_session.ensures.session
