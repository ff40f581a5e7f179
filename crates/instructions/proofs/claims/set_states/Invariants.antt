use Rattle.std.proofs.Common.{◌-◌}
use Rattle.model.specs.Initialisation.{with_states}
use Rattle.instructions.specs.InitialisingByNumbers.{claimed}
use Rattle.instructions.proofs.ClaimFrames.{AreSet}
use Rattle.instructions.proofs.claims.set_states.Given as goal

-- once the rest come into the state, all did
abbrev pub invariant-loop : goal.invariant-loop
invariant-loop l =
    AreSet l.program l.state (with_states l.state (claimed l.program l.class l.count) l.fn.states.items)
    (l.count - l.counter) l.next l.states.items
