-- A throwable lands: at a handler, at an initializer that fails, or nowhere.
use Rattle.std.proofs.Common.{Some, None, refl}
use Rattle.model.specs.declared.turns.ClassState.TheVariants.{Failed}
use Rattle.instructions.specs.Leaving.{innermost}
use Rattle.instructions.proofs.ReturnLemmas.{left-keeps}
use Rattle.instructions.proofs.Throwables.{handler_lands, initializer_lands, nowhere_lands}
use Rattle.instructions.proofs.machines.Machine.land.Goals as goal

pub returns-in-Handler-clause-step : goal.returns-in-Handler-clause-step
returns-in-Handler-clause-step c = λ scene here x.
    let m = c.args.self.now in
    handler_lands c.args.program.now scene m here c.args.reference c.args.kind c.requires.kind x c.leave_frames.new.self
    (record c.leave_frames.new.self { frames = c.handle.new.frames; heap = c.shade.new.self }) c.in-Handler.left
    (rw c.in-Handler.is at c.requires.within) c.leave_frames.ensures.left c.leave_frames.ensures.frames refl refl refl
    c.in-Handler.handler
    (rw c.in-Handler.is at c.requires.way) (rw c.in-Handler.is at c.requires.room) c.handle.ensures c.shade.ensures

pub returns-in-Handler-clause-keeps : goal.returns-in-Handler-clause-keeps
returns-in-Handler-clause-keeps c =
    left-keeps c.args.program.now Failed (innermost c.in-Handler.left c.args.self.now.frames) c.args.self.now
    c.leave_frames.new.self
    (record c.leave_frames.new.self { frames = c.handle.new.frames; heap = c.shade.new.self }) (Some c.args.reference)
    c.leave_frames.ensures.left refl refl refl refl c.shade.ensures

pub returns-in-Initializer-clause-step : goal.returns-in-Initializer-clause-step
returns-in-Initializer-clause-step c = λ scene here x.
    let m = c.args.self.now in
    initializer_lands c.args.program.now scene m here c.args.reference c.args.kind c.requires.kind x
    c.leave_frames-in-Initializer.new.self
    (record c.leave_frames-in-Initializer.new.self { frames = c.fail.new.frames }) c.in-Initializer.left
    (rw c.in-Initializer.is at c.requires.within) c.leave_frames-in-Initializer.ensures.left
    c.leave_frames-in-Initializer.ensures.frames refl refl refl
    (rw c.in-Initializer.is at c.requires.way) c.fail.ensures refl

pub returns-in-Initializer-clause-keeps : goal.returns-in-Initializer-clause-keeps
returns-in-Initializer-clause-keeps c =
    left-keeps c.args.program.now Failed (innermost c.in-Initializer.left c.args.self.now.frames) c.args.self.now
    c.leave_frames-in-Initializer.new.self
    (record c.leave_frames-in-Initializer.new.self { frames = c.fail.new.frames }) None
    c.leave_frames-in-Initializer.ensures.left refl refl refl refl refl

pub returns-in-Nowhere-clause-step : goal.returns-in-Nowhere-clause-step
returns-in-Nowhere-clause-step c = λ scene here x.
    nowhere_lands c.args.program.now scene c.args.self.now here c.args.reference c.args.kind c.requires.kind x
    c.leave_frames-in-Nowhere.new.self
    (rw c.in-Nowhere.is at c.requires.way) (rw c.depth-depth.ensures.count at c.leave_frames-in-Nowhere.ensures.left)

pub returns-in-Nowhere-clause-keeps : goal.returns-in-Nowhere-clause-keeps
returns-in-Nowhere-clause-keeps c =
    left-keeps c.args.program.now Failed (innermost c.depth-depth.result c.args.self.now.frames) c.args.self.now
    c.leave_frames-in-Nowhere.new.self c.leave_frames-in-Nowhere.new.self None
    c.leave_frames-in-Nowhere.ensures.left refl refl refl refl refl
