use Rattle.std.proofs.Common.{◌≡◌, map, take}
use Rattle.model.specs.Initialisation.{waiting}
use Rattle.ideal_run.proofs.initialisation.all_waiting.Given as goal

-- the frames so far
abbrev pub invariant-loop-frame : goal.invariant-loop-frame
invariant-loop-frame l = l.after.items ≡ map waiting (take l.frame-index l.frames)
