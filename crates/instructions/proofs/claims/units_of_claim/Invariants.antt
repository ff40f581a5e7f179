use Rattle.std.proofs.Common.{◌≡◌, ◌≤◌, ◌+◌, ◌-◌, ◌*◌}
use Rattle.model.specs.Frames.{units_of_frames}
use Rattle.model.specs.Initialisation.{initializer_frames}
use Rattle.instructions.specs.InitialisingByNumbers.{claimed}
use Rattle.instructions.proofs.ClaimFrames.{AreLeft, rest_of}
use Rattle.instructions.proofs.claims.units_of_claim.Given as goal

-- the units that were counted and those of what is left are all units
abbrev pub invariant-loop : goal.invariant-loop
invariant-loop l =
    AreLeft l.program (l.count - l.counter) l.next
    × (l.units + units_of_frames (initializer_frames l.program (rest_of l.program (l.count - l.counter) l.next))
    ≡ units_of_frames (initializer_frames l.program (claimed l.program l.class l.count)))
    × (l.units ≤ l.counter * 131070)
