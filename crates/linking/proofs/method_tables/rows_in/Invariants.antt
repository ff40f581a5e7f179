use Rattle.std.proofs.Common.{◌≡◌, ◌++◌, drop, map}
use Rattle.linking.specs.MethodTables.{row_of}
use Rattle.linking.proofs.method_tables.rows_in.Given as goal

abbrev pub invariant-loop-row : goal.invariant-loop-row
invariant-loop-row l = l.rows.items ++ map (row_of l.numbers) (drop l.row-index l.listed)
    ≡ map (row_of l.numbers) l.listed
