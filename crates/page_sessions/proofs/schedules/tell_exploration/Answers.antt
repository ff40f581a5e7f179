use Rattle.std.proofs.Common.{◌∙◌, refl}
use Rattle.debugger.specs.Sessions.{debugged}
use Rattle.debugger.proofs.Carried.{written_carries}
use Rattle.page_sessions.specs.Playing.{Explores}
use Rattle.page_sessions.proofs.schedules.tell_exploration.Goals as goal

pub returns-in-Ok-clause-carried : goal.returns-in-Ok-clause-carried
returns-in-Ok-clause-carried g c = λ bs.
    let s = debugged c.args.world.now bs in
    let (r, is, told) = c.in-Ok.ensures in
    written_carries (Explores s c.args.bounds.no_room) c.put_text.result s s (g.S.Sink.contents c.args.sink.now)
    (g.S.Sink.contents c.put_text.new.sink) c.deref.result.now (r, is, (refl, c.deref.ensures.value ∙ told))
    c.put_text.ensures.told
