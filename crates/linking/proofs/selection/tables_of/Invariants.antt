use Rattle.std.proofs.Common.{take}
use Rattle.resolve.specs.Numbers.{all_classes}
use Rattle.linking.specs.SelectionTables.{AreTables}
use Rattle.linking.proofs.selection.tables_of.Given as goal

-- the classes so far have their tables
abbrev pub invariant-loop-number : goal.invariant-loop-number
invariant-loop-number l = AreTables l.classes l.tables.items (take l.number (all_classes l.classes))
