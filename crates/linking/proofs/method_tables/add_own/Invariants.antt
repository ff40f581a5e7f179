use Rattle.std.proofs.Common.{◌≡◌, ◌++◌, drop, map}
use Rattle.linking.specs.MethodTables.{own_methods}
use Rattle.linking.proofs.method_tables.add_own.Given as goal

abbrev pub invariant-loop-class : goal.invariant-loop-class
invariant-loop-class l =
    map (λ t. t.items) l.tables.items ++ map (own_methods l.numbers) (drop l.class-index l.own)
    ≡ map (λ t. t.items) l.fn.tables.items ++ map (own_methods l.numbers) l.own
