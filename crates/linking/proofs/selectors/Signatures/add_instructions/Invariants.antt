use Rattle.std.proofs.Common.{◌≡◌, drop}
use Rattle.linking.specs.Selectors.{with_instructions}
use Rattle.linking.proofs.selectors.Signatures.add_instructions.Given as goal

-- what was added so far, and what follows
abbrev pub invariant-loop-placed : goal.invariant-loop-placed
invariant-loop-placed l = with_instructions l.self (drop l.placed-index l.instructions)
    ≡ with_instructions l.fn.self l.fn.instructions
