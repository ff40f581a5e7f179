use Rattle.std.proofs.Common.{◌≡◌, drop, map}
use Rattle.resolve.specs.Reached.{with_names}
use Rattle.resolve.proofs.reached.Reached.add_all.Given as goal

abbrev pub invariant-loop-name : goal.invariant-loop-name
invariant-loop-name l =
    with_names l.self (map (λ name. name.bytes.now) (drop l.name-index l.name-items))
    ≡ with_names l.fn.self (map (λ name. name.bytes.now) l.name-items)
