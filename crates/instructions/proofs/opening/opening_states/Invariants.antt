use Rattle.std.proofs.Common.{◌≡◌, take}
use Rattle.model.specs.Initialisation.{opening_states}
use Rattle.instructions.proofs.opening.opening_states.Given as goal

-- the states of the classes so far
abbrev pub invariant-loop-class : goal.invariant-loop-class
invariant-loop-class l = l.states.items ≡ take l.class (opening_states l.program)
