use Rattle.instructions.proofs.LeavingLemmas.{rest-first, rest-next, rest-over, rest-some}
use Rattle.instructions.proofs.machines.Machine.leave_frames.Goals as goal

pub loop-init : goal.loop-init
loop-init c = rest-first c.args.program.now c.args.self.now c.args.count c.requires

pub leave_frame-requires : goal.leave_frame-requires
leave_frame-requires c =
    rest-some c.args.program.now c.args.self.now c.args.count c.loop.self c.loop.counter c.loop-test.true
    c.loop.invariant

pub loop-preserved : goal.loop-preserved
loop-preserved c =
    rest-next c.args.program.now c.args.self.now c.args.count c.loop.self c.leave_frame.new.self c.loop.counter
    c.loop-test.true
    c.loop.invariant c.leave_frame.ensures.left c.leave_frame.ensures.frames

pub returns : goal.returns
returns c =
    let over = rest-over c.args.program.now c.args.self.now c.args.count c.loop.self c.loop.counter c.loop-test.false
    c.loop.invariant in
    record { left = over.0; frames = over.1 }
