use Rattle.std.proofs.Common.{◌≡◌, ◌+◌, ◌≤◌, drop}
use Rattle.model.specs.Classes.Types.{dimensions}
use Rattle.linking.proofs.type_numbers.dimensions.Given as goal

abbrev pub invariant-loop-byte : goal.invariant-loop-byte
invariant-loop-byte l = record {
  so_far : l.count + dimensions (drop l.byte-index l.name) ≡ dimensions l.name;
  few : l.count ≤ l.byte-index;
}
