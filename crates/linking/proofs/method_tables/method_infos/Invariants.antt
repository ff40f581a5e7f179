use Rattle.std.proofs.Common.{◌≡◌, ◌++◌, drop, map}
use Rattle.linking.specs.MethodTables.{method_facts}
use Rattle.linking.proofs.method_tables.method_infos.Given as goal

abbrev pub invariant-loop-method : goal.invariant-loop-method
invariant-loop-method l =
    l.infos.items ++ map (method_facts l.numbers l.class.name) (drop l.method-index l.methods)
    ≡ map (method_facts l.numbers l.class.name) l.methods
