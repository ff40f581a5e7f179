use Rattle.std.proofs.Common.{◌≡◌, ◌≤◌, take, length}
use Rattle.model.specs.Values.{births_of}
use Rattle.plain_steps.proofs.written.Written.of.Given as goal

abbrev pub invariant-loop-value : goal.invariant-loop-value
invariant-loop-value l = record {
  room : length l.numbers ≡ 6;
  within : l.count ≤ l.value-index;
  so_far : take l.count l.numbers ≡ births_of (take l.value-index l.values);
}
