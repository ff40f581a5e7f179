use Rattle.std.proofs.Common.{refl, sym, ◌∙◌}
use Rattle.debug_texts.specs.Answers.{deleted_text, no_breakpoint}
use Rattle.debugger.specs.Breakpoints.{at_number}
use Rattle.debugger.specs.Sessions.{Deletes, debugged}
use Rattle.debugger.proofs.Carried.{deletes_none, deletes_some, written_carries}
use Rattle.debugger.proofs.carrying.delete_at.Goals as goal

pub returns-then-delete-clause-carried : goal.returns-then-delete-clause-carried
returns-then-delete-clause-carried g c v =
    let s = debugged v c.args.breakpoints.now.slots in
    let t = debugged v c.delete.new.breakpoints.slots in
    let place = at_number c.args.breakpoints.now.slots c.args.number in
    written_carries (Deletes s c.args.number place) c.told.result s t (g.S.Sink.contents c.args.sink.now)
    (g.S.Sink.contents c.put_deleted.new.sink) (deleted_text c.args.number)
    (deletes_some s t c.args.number (deleted_text c.args.number) place
    (sym c.delete.ensures.found ∙ c.if-delete.true)
    (record { changes = c.delete.ensures.deleted c.if-delete.true; world = refl; answer_is = refl }))
    (c.told.ensures.told (g.S.Sink.contents c.args.sink.now) (g.S.Sink.contents c.put_deleted.new.sink)
    (deleted_text c.args.number) c.put_deleted.ensures.puts)

pub returns-else-delete-clause-carried : goal.returns-else-delete-clause-carried
returns-else-delete-clause-carried g c v =
    let s = debugged v c.args.breakpoints.now.slots in
    let t = debugged v c.delete.new.breakpoints.slots in
    let place = at_number c.args.breakpoints.now.slots c.args.number in
    written_carries (Deletes s c.args.number place) c.put_text.result s t (g.S.Sink.contents c.args.sink.now)
    (g.S.Sink.contents c.put_text.new.sink) no_breakpoint
    (deletes_none s t c.args.number no_breakpoint place (sym c.delete.ensures.found ∙ c.if-delete.false)
    (rw (c.delete.ensures.kept c.if-delete.false) (refl, refl)))
    c.put_text.ensures.told
