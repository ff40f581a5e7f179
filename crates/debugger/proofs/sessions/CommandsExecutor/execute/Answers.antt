use Rattle.std.proofs.Common.{◌∙◌, Option, ap, subst}
use Rattle.debug_texts.specs.Commands.{Said, command_of}
use Rattle.debug_texts.proofs.CommandLemmas.{command_kept}
use Rattle.debugger.specs.Sessions.{Carries, Does, debugged}
use Rattle.debugger.proofs.sessions.CommandsExecutor.execute.Goals as goal

pub returns-clause-carried : goal.returns-clause-carried
returns-clause-carried g c = λ line k.
    let s = debugged c.args.world.now c.args.breakpoints.now.slots in
    let t = debugged c.carry_out.new.world c.carry_out.new.breakpoints.slots in
    let C : Option Said → Type 0 = λ command. Carries (Does s command) c.carry_out.result s t
    (g.S.Sink.contents c.args.sink.now) (g.S.Sink.contents c.carry_out.new.sink) in
    subst C (c.command_of.ensures ∙ ap command_of k ∙ command_kept line) c.carry_out.ensures.carried
