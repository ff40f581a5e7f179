use Rattle.std.proofs.Common.{Some, None, refl}
use Rattle.debug_texts.specs.Answers.{broken_text, no_place}
use Rattle.debugger.specs.Sessions.{Breaks, debugged}
use Rattle.debugger.proofs.Carried.{written_carries}
use Rattle.debugger.proofs.carrying.break_at.Goals as goal

pub returns-in-None-clause-carried : goal.returns-in-None-clause-carried
returns-in-None-clause-carried g c v =
    let s = debugged v c.args.breakpoints.now.slots in
    rw c.in-None.is
    (written_carries (Breaks s None) c.put_text.result s s (g.S.Sink.contents c.args.sink.now)
    (g.S.Sink.contents c.put_text.new.sink) no_place (refl, refl) c.put_text.ensures.told)

pub returns-in-Ok-clause-carried : goal.returns-in-Ok-clause-carried
returns-in-Ok-clause-carried g c v =
    let s = debugged v c.args.breakpoints.now.slots in
    rw c.in-Some.is
    (written_carries (Breaks s (Some c.in-Some.place)) c.told.result s (debugged v c.add.new.breakpoints.slots)
    (g.S.Sink.contents c.args.sink.now) (g.S.Sink.contents c.put_broken.new.sink) (broken_text c.in-Ok.number)
    (record {
      number = c.in-Ok.number;
      vacant = c.in-Ok.ensures.vacant;
      changes = c.in-Ok.ensures.added;
      world = refl;
      answer_is = refl;
    })
    (c.told.ensures.told (g.S.Sink.contents c.args.sink.now) (g.S.Sink.contents c.put_broken.new.sink)
    (broken_text c.in-Ok.number) c.put_broken.ensures.puts))
