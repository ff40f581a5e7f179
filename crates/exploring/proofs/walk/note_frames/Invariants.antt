use Rattle.std.proofs.Common.{◌≡◌, drop}
use Rattle.std.specs.List.{flat_map}
use Rattle.model.specs.Collector.Reached.{roots_of_frame}
use Rattle.collector.specs.Reaching.{all_noted}
use Rattle.exploring.proofs.walk.note_frames.Given as goal

-- those that are left complete the marking
abbrev pub invariant-loop-frame : goal.invariant-loop-frame
invariant-loop-frame l = all_noted l.reaching (flat_map roots_of_frame (drop l.frame-index l.frames)) ≡ all_noted l.fn.reaching (flat_map roots_of_frame l.frames)
