use Rattle.std.proofs.Common.{◌≡◌}
use Rattle.debugger.specs.Breakpoints.{first_at, least_at}
use Rattle.debugger.proofs.breakpoints.least_at.Given as goal

-- those that are left lead to the same
abbrev pub invariant-loop-number : goal.invariant-loop-number
invariant-loop-number l =
    (goal.iterator-loop-number).can_next l.number-iterator × (goal.iterator-loop-number).is_finite l.number-iterator
    × (first_at l.place l.number-iterator ≡ least_at l.breakpoints.slots l.place)
