use Rattle.std.proofs.Common.{◌∙◌, ap, option_copied, sym}
use Rattle.model.specs.Frames.{Frame, running}
use Rattle.exploring.proofs.AheadLemmas.{quiet_call, quiet_plain, quiet_return, turn_if}
use Rattle.exploring.proofs.ahead.plain_turn.Goals as goal

pub returns-then-is_plain : goal.returns-then-is_plain
returns-then-is_plain c = turn_if c.quiet_turn.result
    (quiet_plain c.args.transitions.now c.args.world.now c.args.thread c.in-Some.frame.now c.in-Some-instruction_of.placed.now
    (sym (ap running c.frames_at.ensures) ∙ sym c.running.ensures ∙ ap option_copied c.in-Some.is)
    (ap (λ (f : Frame). f.mark) (sym c.frame.view_is) ∙ c.in-Unmarked.is)
    (sym c.instruction_of.ensures ∙ ap option_copied c.in-Some-instruction_of.is)
    (sym c.is_plain.ensures ∙ c.if-is_plain.true)) c.quiet_turn.ensures

pub returns-in-Return : goal.returns-in-Return
returns-in-Return c = turn_if c.returned_turn.result
    (quiet_return c.args.transitions.now c.args.world.now c.args.thread c.in-Some.frame.now c.in-Some-instruction_of.placed.now
    (sym (ap running c.frames_at.ensures) ∙ sym c.running.ensures ∙ ap option_copied c.in-Some.is)
    (ap (λ (f : Frame). f.mark) (sym c.frame.view_is) ∙ c.in-Unmarked.is)
    (sym c.instruction_of.ensures ∙ ap option_copied c.in-Some-instruction_of.is)
    c.in-Return.field-0 c.in-Return.is) c.returned_turn.ensures

pub returns-in-Invoke : goal.returns-in-Invoke
returns-in-Invoke c = turn_if c.called_turn.result
    (quiet_call c.args.transitions.now c.args.world.now c.args.thread c.in-Some.frame.now c.in-Some-instruction_of.placed.now
    (sym (ap running c.frames_at.ensures) ∙ sym c.running.ensures ∙ ap option_copied c.in-Some.is)
    (ap (λ (f : Frame). f.mark) (sym c.frame.view_is) ∙ c.in-Unmarked.is)
    (sym c.instruction_of.ensures ∙ ap option_copied c.in-Some-instruction_of.is)
    c.in-Invoke.invocation c.in-Invoke.field-1 c.in-Invoke.is) c.called_turn.ensures
