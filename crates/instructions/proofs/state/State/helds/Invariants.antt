use Rattle.std.proofs.Common.{◌≡◌, ◌++◌, drop}
use Rattle.instructions.specs.HeldOnCells.{helds_from}
use Rattle.instructions.proofs.state.State.helds.Given as goal

-- what the cells hold that are left completes what all hold
abbrev pub invariant-loop-cell : goal.invariant-loop-cell
invariant-loop-cell l =
    l.views.items ++ helds_from l.self.machine l.cell (drop l.cell l.self.machine.account.cells)
    ≡ helds_from l.self.machine 0 l.self.machine.account.cells
