use Rattle.std.proofs.Common.{◌≡◌, ◌++◌, ◌-◌}
use Rattle.model.specs.Initialisation.{callers_waiting, initializer_frames}
use Rattle.instructions.specs.InitialisingByNumbers.{claim_frames}
use Rattle.instructions.proofs.ClaimFrames.{AreLeft, rest_of}
use Rattle.instructions.proofs.claims.enter_initializers.Given as goal

-- the frames so far and those of what is left are all frames
abbrev pub invariant-loop-passed : goal.invariant-loop-passed
invariant-loop-passed l =
    AreLeft l.program (l.count - l.passed) l.next
    × (l.frames ++ callers_waiting (initializer_frames l.program (rest_of l.program (l.count - l.passed) l.next))
    ≡ l.fn.frames ++ claim_frames l.program l.class l.count)
