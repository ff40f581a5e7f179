use Rattle.debug_texts.proofs.Pieces.{part_kept, whole_part}
use Rattle.debugger.proofs.sessions.answer.Goals as goal

pub returns-in-Ok-flush-clause-carried : goal.returns-in-Ok-flush-clause-carried
returns-in-Ok-flush-clause-carried g c = λ line k.
    let (answer, does, written) = c.in-Ok.ensures.carried line k in (
      answer,
      does,
      part_kept (g.S.Sink.contents c.args.sink.now) (g.S.Sink.contents c.execute.new.sink)
          (g.S.Sink.contents c.flush.new.self) answer written c.flush.ensures.kept,
    )

pub returns-in-Err-flush-clause-carried : goal.returns-in-Err-flush-clause-carried
returns-in-Err-flush-clause-carried g c = λ line k.
    let (answer, does, written) = c.in-Ok.ensures.carried line k in
    let out = g.S.Sink.contents c.args.sink.now in
    let now = g.S.Sink.contents c.flush.new.self in (
      answer,
      does,
      whole_part out now answer (part_kept out (g.S.Sink.contents c.execute.new.sink) now answer written
          c.flush.ensures.kept),
    )
