use Rattle.std.proofs.Common.{◌≡◌, ◌*◌, ◌≤◌, take}
use Rattle.model.specs.Values.{units_of_all}
use Rattle.frames.proofs.results.units_of_values.Given as goal

abbrev pub invariant-loop-value : goal.invariant-loop-value
invariant-loop-value l = (l.units ≡ units_of_all (take l.value-index l.values)) × (l.units ≤ 2 * l.value-index)
