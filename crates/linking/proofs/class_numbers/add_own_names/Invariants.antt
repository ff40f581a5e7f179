use Rattle.std.proofs.Common.{◌≡◌, ◌++◌, drop, map}
use Rattle.linking.proofs.class_numbers.add_own_names.Given as goal

abbrev pub invariant-loop-class : goal.invariant-loop-class
invariant-loop-class l =
    map (λ n. n.bytes.now) l.names.items ++ map (λ b. b.name.now) (drop l.class-index l.classes)
    ≡ map (λ n. n.bytes.now) l.fn.names.items ++ map (λ b. b.name.now) l.classes
