use Rattle.std.proofs.Common.{◌≡◌, length}
use Rattle.std.specs.List.{list_all}
use Rattle.model.specs.Signatures.{types_in}
use Rattle.model.specs.Texts.Descriptors.{is_type}
use Rattle.model.proofs.descriptors.are_types.Given as goal

-- the types so far are all types, so that the rest decides
abbrev pub invariant-loop-rest : goal.invariant-loop-rest
invariant-loop-rest l = list_all is_type (types_in l.row) ≡ list_all is_type (types_in l.rest)

abbrev pub decreases-loop-rest : goal.decreases-loop-rest
decreases-loop-rest l = length l.rest
