use Rattle.std.proofs.Common.{◌≡◌, ◌++◌, drop, map}
use Rattle.join.specs.ReadBack.{birth_read}
use Rattle.instructions.proofs.heaps.Heap.grey_births.Given as goal

-- the births so far, and those of the references that are left
abbrev pub invariant-loop-reference : goal.invariant-loop-reference
invariant-loop-reference l =
    let births = map (birth_read l.self.account.cells) in
    l.births.items ++ births (drop l.reference-index l.reference-items) ≡ births l.reference-items
