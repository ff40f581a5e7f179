use Rattle.exploring.specs.Explorations.{IsOnItsWay}
use Rattle.exploring.proofs.parts.divide.Given as goal

-- it is still on its way
abbrev pub invariant-loop-state : goal.invariant-loop-state
invariant-loop-state l = IsOnItsWay l.transitions.program l.transitions.limits l.first l.bounds.no_room l.fn.exploration
    → IsOnItsWay l.transitions.program l.transitions.limits l.first l.bounds.no_room l.exploration
