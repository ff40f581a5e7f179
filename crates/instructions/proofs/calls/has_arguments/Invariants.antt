use Rattle.std.proofs.Common.{◌≡◌, drop, reverse}
use Rattle.model.specs.Frames.{running_frame}
use Rattle.model.specs.Table.Invokes.{fault_in_pops}
use Rattle.instructions.proofs.calls.has_arguments.Given as goal

-- what the other pops tell
abbrev pub invariant-loop-above : goal.invariant-loop-above
invariant-loop-above l =
    fault_in_pops (drop l.above (reverse l.kinds)) (drop l.above (running_frame l.frames).stack)
    ≡ fault_in_pops (reverse l.fn.kinds) (running_frame l.frames).stack
