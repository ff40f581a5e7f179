use Rattle.std.proofs.Common.{◌≡◌, drop, map}
use Rattle.model.specs.Classes.Search.{first_declared}
use Rattle.resolve.proofs.classes.Classes.declared_among.Given as goal

abbrev pub invariant-loop-name : goal.invariant-loop-name
invariant-loop-name g l =
    first_declared l.self (g.S.Sought.of l.sought) (map (λ n. n.bytes.now) (drop l.name-index l.names))
    ≡ first_declared l.self (g.S.Sought.of l.sought) (map (λ n. n.bytes.now) l.names)
