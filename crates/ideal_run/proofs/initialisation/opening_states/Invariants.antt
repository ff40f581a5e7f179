use Rattle.std.proofs.Common.{◌≡◌, map, take}
use Rattle.model.specs.ClassListings.{ClassListing}
use Rattle.model.specs.Initialisation.{state_if, wants_initialising}
use Rattle.ideal_run.proofs.initialisation.opening_states.Given as goal

-- the states of the classes so far
abbrev pub invariant-loop-class : goal.invariant-loop-class
invariant-loop-class l = l.states.items ≡ map (λ (c : ClassListing). state_if (wants_initialising l.program c))
    (take l.class-index l.class-items)
