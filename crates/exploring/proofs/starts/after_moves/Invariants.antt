use Rattle.exploring.specs.Origins.{IsAfter}
use Rattle.exploring.proofs.starts.after_moves.Given as goal

-- the first moves were made
abbrev pub invariant-loop-turn : goal.invariant-loop-turn
invariant-loop-turn l = IsAfter l.transitions.program l.transitions.limits l.moves l.turn-index l.world
