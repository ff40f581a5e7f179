use Rattle.std.proofs.Common.{◌≡◌, drop, nat_le}
use Rattle.model.specs.Values.{units_of_all}
use Rattle.ideal_run.proofs.frames.has_room.Given as goal

-- what is left takes the room that is left
abbrev pub invariant-loop-value : goal.invariant-loop-value
invariant-loop-value l = nat_le (units_of_all l.stack) l.room ≡ nat_le (units_of_all (drop l.value-index l.stack))
    l.left
