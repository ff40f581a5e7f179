use Rattle.std.proofs.Common.{◌≡◌, drop}
use Rattle.join.specs.ReadBack.{cell_from}
use Rattle.instructions.proofs.heaps.Heap.first_holding.Given as goal

abbrev pub invariant-loop-cell : goal.invariant-loop-cell
invariant-loop-cell l =
    cell_from 0 l.birth l.self.account.cells ≡ cell_from l.cell l.birth (drop l.cell l.self.account.cells)
