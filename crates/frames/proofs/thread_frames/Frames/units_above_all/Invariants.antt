use Rattle.std.proofs.Common.{◌≡◌, ◌*◌, ◌≤◌, take}
use Rattle.model.specs.Frames.{running_frame}
use Rattle.model.specs.Values.{units_of_all}
use Rattle.frames.proofs.thread_frames.Frames.units_above_all.Given as goal

abbrev pub invariant-loop-above : goal.invariant-loop-above
invariant-loop-above l = (l.units ≡ units_of_all (take l.above (running_frame l.self).stack)) × (l.units ≤ 2 * l.above)
