use Rattle.std.proofs.Common.{◌∷◌, [], None, refl}
use Rattle.model.specs.Frames.{running_frame}
use Rattle.model.specs.declared.turns.ClassState.TheVariants.{Done}
use Rattle.instructions.proofs.ReturnLemmas.{caller-is, ends_all, left-keeps}
use Rattle.instructions.proofs.machines.Machine.leave_with.Goals as goal

pub leave_to-requires-clause-caller : goal.leave_to-requires-clause-caller
leave_to-requires-clause-caller c = caller-is c.args.self.now.frames c.in-Some.caller c.in-Some.ensures

pub returns-in-None-clause-step : goal.returns-in-None-clause-step
returns-in-None-clause-step c = λ n scene here.
    let m = c.args.self.now in
    let left = c.leave_frame.new.self in
    rw c.to.ensures
    (ends_all c.args.program.now scene m left left here c.leave_frame.ensures.left refl refl refl n c.args.value
    c.in-None.ensures refl)

pub returns-in-None-clause-keeps : goal.returns-in-None-clause-keeps
returns-in-None-clause-keeps c =
    let m = c.args.self.now in
    let left = c.leave_frame.new.self in
    left-keeps c.args.program.now Done (running_frame m.frames ∷ []) m left left None c.leave_frame.ensures.left refl
    refl refl refl refl
