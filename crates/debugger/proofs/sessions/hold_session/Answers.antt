use Rattle.std.proofs.Common.{◌≡◌, ◌≢◌, ◌∙◌, ℕ, List, Some, false, Bool, subst}
use Rattle.std.specs.Prelude.{IsTrue}
use Rattle.debug_texts.specs.Commands.{command_of}
use Rattle.debug_texts.specs.Commands.Said.{Quit}
use Rattle.debugger.specs.Sessions.{debugged}
use Rattle.debugger.proofs.SessionSteps.{answered, at_end, line_fails, no_read_fails, quits, read_fails}
use Rattle.debugger.proofs.sessions.hold_session.Goals as goal

abbrev IsNoQuit : List ℕ → Type 0
IsNoQuit kept = command_of kept ≢ Some Quit

no_quit : {b : Bool} → IsTrue b → b ≡ false → ⊥
no_quit h e = cc

pub returns-in-Err-clause-session : goal.returns-in-Err-clause-session
returns-in-Err-clause-session g c =
    c.lines.invariant.session _ _ _ _
    (read_fails g.E.Executor.does (debugged c.lines.world c.lines.breakpoints.slots)
    (g.R.Source.remaining c.lines.source) (g.R.Source.remaining c.read_line.new.source)
    (g.W.Sink.contents c.lines.sink) c.in-Err.ensures.part)

pub returns-in-Ok-false-clause-session : goal.returns-in-Ok-false-clause-session
returns-in-Ok-false-clause-session g c =
    c.lines.invariant.session _ _ _ _
    (at_end g.E.Executor.does c.say_farewell-in-Ok-false.result (debugged c.lines.world c.lines.breakpoints.slots)
    (g.R.Source.remaining c.lines.source) (g.R.Source.remaining c.read_line.new.source)
    (g.W.Sink.contents c.lines.sink) (g.W.Sink.contents c.say_farewell-in-Ok-false.new.sink)
    (c.in-Ok-false.ensures.end c.in-Ok-false.field-0-test) c.say_farewell-in-Ok-false.ensures.told)

pub returns-then-is_quit-clause-session : goal.returns-then-is_quit-clause-session
returns-then-is_quit-clause-session g c =
    c.lines.invariant.session _ _ _ _
    (quits g.E.Executor.does c.say_farewell.result (debugged c.lines.world c.lines.breakpoints.slots)
    (g.R.Source.remaining c.lines.source) (g.R.Source.remaining c.read_line.new.source)
    (g.W.Sink.contents c.lines.sink) (g.W.Sink.contents c.say_farewell.new.sink) c.read_line.new.line
    (c.in-Ok-true.ensures.line c.in-Ok-true.field-0-test)
    (rw c.bytes-kept.ensures at (c.is_quit.ensures.0 c.if-is_quit.true)) c.say_farewell.ensures.told)

pub lines-preserved : goal.lines-preserved
lines-preserved g c = record {
  session = λ result w after now rest.
      c.lines.invariant.session result w after now
      (answered g.E.Executor.does result (debugged c.lines.world c.lines.breakpoints.slots)
      (debugged c.answer.new.world c.answer.new.breakpoints.slots) w (g.R.Source.remaining c.lines.source)
      (g.R.Source.remaining c.read_line.new.source) after (g.W.Sink.contents c.lines.sink)
      (g.W.Sink.contents c.answer.new.sink) now c.read_line.new.line
      (c.in-Ok-true.ensures.line c.in-Ok-true.field-0-test)
      (subst IsNoQuit c.bytes-kept.ensures (λ quit. no_quit (c.is_quit.ensures.1 quit) c.if-is_quit.false))
      (rw c.bytes-kept.ensures at c.in-Ok.ensures.carried) rest);
  reads = c.in-Ok-true.ensures.same ∙ c.lines.invariant.reads;
  writes = c.in-Ok.ensures.counts ∙ c.lines.invariant.writes;
}

pub returns-in-Err-answer-clause-session : goal.returns-in-Err-answer-clause-session
returns-in-Err-answer-clause-session g c =
    c.lines.invariant.session _ _ _ _
    (line_fails g.E.Executor.does c.in-Err-answer.error (debugged c.lines.world c.lines.breakpoints.slots)
    (debugged c.answer.new.world c.answer.new.breakpoints.slots) (g.R.Source.remaining c.lines.source)
    (g.R.Source.remaining c.read_line.new.source) (g.W.Sink.contents c.lines.sink)
    (g.W.Sink.contents c.answer.new.sink) c.read_line.new.line
    (c.in-Ok-true.ensures.line c.in-Ok-true.field-0-test)
    (subst IsNoQuit c.bytes-kept.ensures (λ quit. no_quit (c.is_quit.ensures.1 quit) c.if-is_quit.false))
    (rw c.bytes-kept.ensures at c.in-Err-answer.ensures.carried))

pub returns-in-Err-answer-clause-reads : goal.returns-in-Err-answer-clause-reads
returns-in-Err-answer-clause-reads g c =
    no_read_fails g.E.Executor.does c.in-Err-answer.error (debugged c.lines.world c.lines.breakpoints.slots)
    (debugged c.answer.new.world c.answer.new.breakpoints.slots) (g.R.Source.remaining c.lines.source)
    (g.R.Source.remaining c.read_line.new.source) (g.W.Sink.contents c.lines.sink)
    (g.W.Sink.contents c.answer.new.sink) c.read_line.new.line (g.R.Source.failures c.args.source.now)
    (g.R.Source.failures c.read_line.new.source) (c.in-Ok-true.ensures.line c.in-Ok-true.field-0-test)
    (rw c.bytes-kept.ensures at c.in-Err-answer.ensures.carried) (c.in-Ok-true.ensures.same ∙ c.lines.invariant.reads)
