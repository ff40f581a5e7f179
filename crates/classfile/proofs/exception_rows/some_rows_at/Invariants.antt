use Rattle.std.proofs.Common.{◌≡◌, ◌-◌}
use Rattle.classfile.specs.Reading.Lists.{repeated}
use Rattle.classfile.specs.Reading.Codes.{row_from}
use Rattle.classfile.proofs.ListLoops.{with_front}
use Rattle.classfile.proofs.exception_rows.some_rows_at.Given as goal

abbrev pub invariant-loop : goal.invariant-loop
invariant-loop l = with_front l.rows.items (repeated (row_from l.pool) (l.count - l.counter) l.rest)
    ≡ repeated (row_from l.pool) l.count l.bytes
