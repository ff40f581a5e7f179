use Rattle.std.proofs.Common.{[], ap, ◌∙◌}
use Rattle.model.specs.declared.turns.Mark.TheVariants.{Failing}
use Rattle.model.specs.Frames.{Frame, running_frame, with_running}
use Rattle.instructions.proofs.RunningFrames.{changed-twice}
use Rattle.instructions.proofs.landing.fail.Goals as goal

pub returns : goal.returns
returns c =
    let old = c.args.frames.now in
    let f = running_frame old in
    c.set_mark.ensures
    ∙ changed-twice old c.clear.new.self (record f { pc = c.pc-pc.result; stack = [] })
    (λ h. record h { mark = Failing }) c.requires c.clear.ensures
    ∙ ap (λ n. with_running old (let g : Frame = record f { pc = n; stack = []; mark = Failing } in g)) c.pc-pc.ensures
