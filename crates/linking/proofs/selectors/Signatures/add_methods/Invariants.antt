use Rattle.std.proofs.Common.{◌≡◌, drop}
use Rattle.linking.specs.Selectors.{with_methods}
use Rattle.linking.proofs.selectors.Signatures.add_methods.Given as goal

-- what was added so far, and what follows
abbrev pub invariant-loop-method : goal.invariant-loop-method
invariant-loop-method l = with_methods l.self (drop l.method-index l.methods) ≡ with_methods l.fn.self l.fn.methods
