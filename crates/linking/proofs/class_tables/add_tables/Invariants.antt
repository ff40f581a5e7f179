use Rattle.std.proofs.Common.{◌≡◌, ◌++◌, drop, map}
use Rattle.linking.specs.ClassTables.{class_facts}
use Rattle.linking.proofs.class_tables.add_tables.Given as goal

abbrev pub invariant-loop-class : goal.invariant-loop-class
invariant-loop-class l =
    l.numbers ≡ l.classes
    → l.tables.items ++ map (class_facts l.classes) (drop l.class-index l.listings) ≡ l.fn.tables.items
    ++ map (class_facts l.classes) l.listings
