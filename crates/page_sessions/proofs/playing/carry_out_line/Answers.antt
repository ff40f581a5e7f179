use Rattle.std.proofs.Common.{◌≡◌, ◌∙◌, Option, None, Some, subst, sym}
use Rattle.std.specs.Option.{option_map}
use Rattle.debug_texts.specs.Commands.{Said, command_of, said}
use Rattle.debugger.specs.Sessions.{Carries, debugged}
use Rattle.page_texts.specs.declared.requests.Request.{Request}
use Rattle.page_texts.specs.Requests.{request_of}
use Rattle.page_sessions.specs.Playing.{AsksOr}
use Rattle.page_sessions.proofs.playing.carry_out_line.Goals as goal

pub returns-in-Some-clause-carried : goal.returns-in-Some-clause-carried
returns-in-Some-clause-carried g c =
    let bs = c.args.breakpoints.now.slots in
    let s = debugged c.args.world.now bs in
    let line = c.args.kept.now in
    let C : Option Request → Type 0 = λ request. Carries (AsksOr s request (command_of line)) c.ask.result s
    (debugged c.ask.new.world bs) (g.S.Sink.contents c.args.sink.now) (g.S.Sink.contents c.ask.new.sink) in
    let is : request_of line ≡ Some c.in-Some.request = sym c.request_of.ensures ∙ c.in-Some.is in
    subst C (sym is) (c.ask.ensures.carried bs)

pub returns-in-None-clause-carried : goal.returns-in-None-clause-carried
returns-in-None-clause-carried g c =
    let bs = c.args.breakpoints.now.slots in
    let s = debugged c.args.world.now bs in
    let t = debugged c.carry_out.new.world c.carry_out.new.breakpoints.slots in
    let line = c.args.kept.now in
    let C : Option Request → Option Said → Type 0 = λ request command. Carries (AsksOr s request command)
    c.carry_out.result s t (g.S.Sink.contents c.args.sink.now) (g.S.Sink.contents c.carry_out.new.sink) in
    let is : request_of line ≡ None = sym c.request_of.ensures ∙ c.in-None.is in
    let D : Option Said → Type 0 = λ command. C None command in
    let E : Option Request → Type 0 = λ request. C request (command_of line) in
    subst E (sym is) (subst D c.command_of.ensures c.carry_out.ensures.carried)
