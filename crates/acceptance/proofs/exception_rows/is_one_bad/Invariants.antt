use Rattle.std.proofs.Common.{◌≡◌, drop}
use Rattle.std.specs.List.{list_any}
use Rattle.model.specs.Accepted.ExceptionRows.{is_bad_row}
use Rattle.acceptance.proofs.exception_rows.is_one_bad.Given as goal

abbrev pub invariant-loop-row : goal.invariant-loop-row
invariant-loop-row l = list_any (is_bad_row l.classes l.code) (drop l.row-index l.code.rows)
    ≡ list_any (is_bad_row l.classes l.code) l.code.rows
