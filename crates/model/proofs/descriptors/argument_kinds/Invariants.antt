use Rattle.std.proofs.Common.{◌≡◌, ◌++◌, length, map}
use Rattle.model.specs.Signatures.{argument_kinds, types_in}
use Rattle.model.specs.Stores.{descriptor_kind}
use Rattle.model.proofs.descriptors.argument_kinds.Given as goal

-- the kinds so far, and those of the types that follow
abbrev pub invariant-loop-rest : goal.invariant-loop-rest
invariant-loop-rest l = l.kinds.items ++ map descriptor_kind (types_in l.rest) ≡ argument_kinds l.descriptor

abbrev pub decreases-loop-rest : goal.decreases-loop-rest
decreases-loop-rest l = length l.rest
