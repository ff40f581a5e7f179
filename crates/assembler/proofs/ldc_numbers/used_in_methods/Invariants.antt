use Rattle.std.proofs.Common.{◌≡◌, ◌++◌, drop}
use Rattle.model.specs.Texts.Widths.{used_in_methods}
use Rattle.assembler.proofs.ldc_numbers.used_in_methods.Given as goal

-- with those of the methods that are left they are all
abbrev pub invariant-loop-method : goal.invariant-loop-method
invariant-loop-method l = l.used.items ++ used_in_methods (drop l.method-index l.methods) ≡ used_in_methods l.methods
