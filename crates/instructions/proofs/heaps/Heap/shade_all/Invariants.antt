use Rattle.std.proofs.Common.{◌≡◌, drop}
use Rattle.instructions.specs.Heaps.{all_shaded}
use Rattle.instructions.proofs.heaps.Heap.shade_all.Given as goal

abbrev pub invariant-loop-reference : goal.invariant-loop-reference
invariant-loop-reference l =
    all_shaded l.self (drop l.reference-index l.written) ≡ all_shaded l.fn.self l.written
