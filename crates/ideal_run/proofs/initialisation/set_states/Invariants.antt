use Rattle.std.proofs.Common.{◌≡◌, drop}
use Rattle.model.specs.Initialisation.{with_states}
use Rattle.ideal_run.proofs.initialisation.set_states.Given as goal

-- those that are left come into the state
abbrev pub invariant-loop-class : goal.invariant-loop-class
invariant-loop-class l = with_states l.state l.classes l.fn.states ≡ with_states l.state (drop l.class-index l.classes)
    l.states
