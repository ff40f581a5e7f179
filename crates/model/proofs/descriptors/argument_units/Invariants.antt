use Rattle.std.proofs.Common.{◌≡◌, ◌+◌, ◌*◌, ◌≤◌, length}
use Rattle.model.specs.Signatures.{types_in, units_of_types, argument_units}
use Rattle.model.proofs.descriptors.argument_units.Given as goal

-- the units so far, and those of the types that follow
abbrev pub invariant-loop-rest : goal.invariant-loop-rest
invariant-loop-rest l = record {
  together : l.units + units_of_types (types_in l.rest) ≡ argument_units l.descriptor;
  few : l.units + 2 * length l.rest ≤ 2 * length l.descriptor;
}

abbrev pub decreases-loop-rest : goal.decreases-loop-rest
decreases-loop-rest l = length l.rest
