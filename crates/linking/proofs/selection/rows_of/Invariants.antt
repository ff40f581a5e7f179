use Rattle.std.proofs.Common.{◌≡◌, ◌++◌, drop, map}
use Rattle.linking.specs.Selections.{gathered}
use Rattle.linking.proofs.selection.rows_of.Given as goal

-- the rows so far, and those that follow
abbrev pub invariant-loop-signature : goal.invariant-loop-signature
invariant-loop-signature l =
    l.found.items ++ map (λ s. gathered l.rows s.0.bytes.now s.1.bytes.now) (drop l.signature-index l.signatures)
    ≡ map (λ s. gathered l.rows s.0.bytes.now s.1.bytes.now) l.signatures
