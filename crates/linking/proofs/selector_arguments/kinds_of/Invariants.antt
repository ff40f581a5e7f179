use Rattle.std.proofs.Common.{◌≡◌, ◌++◌, drop, map}
use Rattle.model.specs.Signatures.{argument_kinds}
use Rattle.linking.specs.SelectorArguments.{lists}
use Rattle.linking.proofs.selector_arguments.kinds_of.Given as goal

-- the kinds so far, and those that follow
abbrev pub invariant-loop-signature : goal.invariant-loop-signature
invariant-loop-signature l =
    lists l.kinds.items ++ map (λ s. argument_kinds s.1.bytes.now) (drop l.signature-index l.signatures)
    ≡ map (λ s. argument_kinds s.1.bytes.now) l.signatures
