use Rattle.std.proofs.Common.{ℕ, List, subst}
use Rattle.debugger.specs.Sessions.{Carries, debugged}
use Rattle.page_sessions.specs.Playing.{Plays}
use Rattle.page_sessions.proofs.playing.RequestsExecutor.execute.Goals as goal

pub returns-clause-carried : goal.returns-clause-carried
returns-clause-carried g c = λ line k.
    let s = debugged c.args.world.now c.args.breakpoints.now.slots in
    let t = debugged c.carry_out_line.new.world c.carry_out_line.new.breakpoints.slots in
    let C : List ℕ → Type 0 = λ kept. Carries (Plays s kept) c.carry_out_line.result s t
    (g.S.Sink.contents c.args.sink.now) (g.S.Sink.contents c.carry_out_line.new.sink) in
    subst C k c.carry_out_line.ensures.carried
