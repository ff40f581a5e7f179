use Rattle.std.proofs.Common.{◌≡◌, drop}
use Rattle.linking.specs.Selectors.{with_classes}
use Rattle.linking.proofs.selectors.Signatures.add_classes.Given as goal

-- what was added so far, and what follows
abbrev pub invariant-loop-class : goal.invariant-loop-class
invariant-loop-class l = with_classes l.self (drop l.class-index l.classes) ≡ with_classes l.fn.self l.fn.classes
