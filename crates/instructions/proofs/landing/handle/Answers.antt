use Rattle.std.proofs.Common.{[], ◌∷◌, Some, ◌∙◌}
use Rattle.model.specs.declared.values.Value.TheVariants.{Ref}
use Rattle.model.specs.Frames.{replaced, running_frame}
use Rattle.instructions.proofs.RunningFrames.{changed-twice}
use Rattle.instructions.proofs.landing.handle.Goals as goal

pub returns : goal.returns
returns c =
    let old = c.args.frames.now in
    let f = running_frame old in
    c.push_reference.ensures
    ∙ changed-twice old c.clear.new.self (record f { pc = c.args.handler; stack = [] })
    (λ h. (replaced c.args.handler h 0 (Ref (Some c.args.reference) ∷ [])).frame) c.requires.some c.clear.ensures
