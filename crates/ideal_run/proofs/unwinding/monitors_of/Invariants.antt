use Rattle.std.proofs.Common.{◌≡◌, map, drop, reverse}
use Rattle.model.specs.Frames.{Frame}
use Rattle.ideal_run.proofs.unwinding.monitors_of.Given as goal

-- those of the frames from n on
abbrev pub invariant-loop-n : goal.invariant-loop-n
invariant-loop-n l = l.monitors.items ≡ map (λ (f : Frame). f.monitor) (reverse (drop l.n l.left))
