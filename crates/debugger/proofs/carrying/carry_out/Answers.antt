use Rattle.std.proofs.Common.{None, refl}
use Rattle.debug_texts.specs.Answers.{bad_command}
use Rattle.debugger.specs.Sessions.{Does, debugged}
use Rattle.debugger.proofs.Carried.{written_carries}
use Rattle.debugger.proofs.carrying.carry_out.Goals as goal

pub returns-in-None-clause-carried : goal.returns-in-None-clause-carried
returns-in-None-clause-carried g c =
    rw c.in-None.is
    (written_carries (Does (debugged c.args.world.now c.args.breakpoints.now.slots) None) c.put_text.result (debugged c.args.world.now c.args.breakpoints.now.slots) (debugged c.args.world.now c.args.breakpoints.now.slots) (g.S.Sink.contents c.args.sink.now)
    (g.S.Sink.contents c.put_text.new.sink) bad_command (refl, refl) c.put_text.ensures.told)
