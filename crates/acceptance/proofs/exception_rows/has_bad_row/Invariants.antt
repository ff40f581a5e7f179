use Rattle.std.proofs.Common.{◌≡◌, drop}
use Rattle.std.specs.List.{list_any}
use Rattle.model.specs.declared.listings.Method.{Method}
use Rattle.model.specs.Accepted.ExceptionRows.{has_bad_row_in}
use Rattle.acceptance.proofs.exception_rows.has_bad_row.Given as goal

abbrev pub invariant-loop-method : goal.invariant-loop-method
invariant-loop-method l =
    list_any (λ (m : Method). has_bad_row_in l.classes m.code) (drop l.method-index l.class.methods)
    ≡ list_any (λ (m : Method). has_bad_row_in l.classes m.code) l.class.methods
