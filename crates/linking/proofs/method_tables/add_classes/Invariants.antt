use Rattle.std.proofs.Common.{◌≡◌, ◌++◌, drop, map}
use Rattle.linking.specs.MethodTables.{class_methods}
use Rattle.linking.proofs.method_tables.add_classes.Given as goal

abbrev pub invariant-loop-class : goal.invariant-loop-class
invariant-loop-class l =
    map (λ t. t.items) l.tables.items ++ map (class_methods l.numbers) (drop l.class-index l.program)
    ≡ map (λ t. t.items) l.fn.tables.items ++ map (class_methods l.numbers) l.program
