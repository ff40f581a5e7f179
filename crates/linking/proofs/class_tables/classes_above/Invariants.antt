use Rattle.std.proofs.Common.{◌≡◌, ◌++◌, drop, map}
use Rattle.model.specs.Classes.Types.{is_subtype}
use Rattle.linking.proofs.class_tables.classes_above.Given as goal

abbrev pub invariant-loop-other : goal.invariant-loop-other
invariant-loop-other l =
    l.above.items ++ map (is_subtype l.classes l.name) (map (λ n. n.bytes.now) (drop l.other-index l.names))
    ≡ map (is_subtype l.classes l.name) (map (λ n. n.bytes.now) l.names)
