use Rattle.std.proofs.Common.{◌≡◌, drop, replicate}
use Rattle.exploring.specs.Canonical.{numbered}
use Rattle.exploring.proofs.forms.numbered.Given as goal

-- the births that are left complete the numbers
abbrev pub invariant-loop-birth : goal.invariant-loop-birth
invariant-loop-birth l = numbered l.names.items l.last (drop l.birth-index l.order)
    ≡ numbered (replicate l.count 0) 0 l.order
