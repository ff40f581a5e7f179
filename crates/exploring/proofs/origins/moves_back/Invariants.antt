use Rattle.std.proofs.Common.{◌≡◌, ◌-◌, ◌++◌}
use Rattle.exploring.specs.Origins.{moves_back}
use Rattle.exploring.proofs.origins.moves_back.Given as goal

-- the moves so far, and those from here
abbrev pub invariant-loop-turn : goal.invariant-loop-turn
invariant-loop-turn l = l.moves.items ++ moves_back l.origins (l.level - l._turn) l.at
    ≡ moves_back l.origins l.level l.place
