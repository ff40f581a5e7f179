use Rattle.std.proofs.Common.{◌≡◌, ◌-◌, ◌++◌, replicate}
use Rattle.exploring.proofs.origins.add_times.Given as goal

-- the moves so far, and those that are left
abbrev pub invariant-loop-time : goal.invariant-loop-time
invariant-loop-time l = l.moves.items ++ replicate (l.times - l._time) l.one
    ≡ l.fn.moves.items ++ replicate l.times l.one
