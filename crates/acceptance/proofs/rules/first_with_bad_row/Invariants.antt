use Rattle.std.proofs.Common.{◌≡◌, drop}
use Rattle.std.specs.List.{find}
use Rattle.model.specs.Accepted.ExceptionRows.{has_bad_row}
use Rattle.acceptance.proofs.rules.first_with_bad_row.Given as goal

abbrev pub invariant-loop-class : goal.invariant-loop-class
invariant-loop-class l = find (has_bad_row l.classes) (drop l.class-index l.classes)
    ≡ find (has_bad_row l.classes) l.classes
