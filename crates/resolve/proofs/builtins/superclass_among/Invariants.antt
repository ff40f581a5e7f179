use Rattle.std.proofs.Common.{◌≡◌, drop}
use Rattle.resolve.specs.Builtins.{superclass_among}
use Rattle.resolve.proofs.builtins.superclass_among.Given as goal

abbrev pub invariant-loop-class : goal.invariant-loop-class
invariant-loop-class l = superclass_among (drop l.class-index l.classes) l.name ≡ superclass_among l.classes l.name
