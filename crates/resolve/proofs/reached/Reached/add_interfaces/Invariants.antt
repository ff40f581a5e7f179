use Rattle.std.proofs.Common.{◌≡◌, drop}
use Rattle.resolve.specs.Reached.{with_names}
use Rattle.resolve.proofs.reached.Reached.add_interfaces.Given as goal

abbrev pub invariant-loop-interface : goal.invariant-loop-interface
invariant-loop-interface l =
    with_names l.self (drop l.interface-index l.interfaces) ≡ with_names l.fn.self l.interfaces
