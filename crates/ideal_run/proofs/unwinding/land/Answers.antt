use Rattle.ideal_run.proofs.WayLemmas.{land-is}
use Rattle.ideal_run.proofs.unwinding.land.Goals as goal

pub returns-in-Ok : goal.returns-in-Ok
returns-in-Ok c = land-is c.args.program.now c.args.world.now _ _ c.args.thread _ _ _ c.in_ok-leave.ensures
    c.in-Ok.ensures (rw c.frames_at.ensures at c.in_ok-towards.ensures)
