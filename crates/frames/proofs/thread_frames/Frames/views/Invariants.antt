use Rattle.std.proofs.Common.{◌≡◌, map, take}
use Rattle.frames.specs.Layout.{frame_of}
use Rattle.frames.proofs.thread_frames.Frames.views.Given as goal

abbrev pub invariant-loop-depth : goal.invariant-loop-depth
invariant-loop-depth l = l.views.items ≡ map (frame_of l.parts.units) (take l.depth l.parts.activations)
