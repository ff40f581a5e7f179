use Rattle.std.proofs.Common.{◌≡◌, drop}
use Rattle.model.specs.Texts.Numbers.{decimal, decimal_from}
use Rattle.jasmin.proofs.written_numbers.decimal.Given as goal

-- the value so far, and the digits that follow
abbrev pub invariant-loop-d : goal.invariant-loop-d
invariant-loop-d l = decimal_from l.value (drop l.d-index l.digits) ≡ decimal l.digits
