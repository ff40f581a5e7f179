use Rattle.std.proofs.Common.{◌≡◌, map, take}
use Rattle.model.specs.Naming.{named_frame}
use Rattle.join.specs.ReadBack.{birth_read}
use Rattle.instructions.proofs.state.threads.named_frames.Given as goal

abbrev pub invariant-loop-frame : goal.invariant-loop-frame
invariant-loop-frame l = l.named.items ≡ map (named_frame (birth_read l.heap.account.cells))
    (take l.frame-index l.frames)
