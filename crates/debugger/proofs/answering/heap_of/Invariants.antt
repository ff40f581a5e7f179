use Rattle.std.proofs.Common.{◌≡◌, ◌++◌, drop}
use Rattle.model.specs.Machines.{machine_of}
use Rattle.debugger.specs.Sessions.{cells_text}
use Rattle.debugger.proofs.answering.heap_of.Given as goal

-- the text so far, and the cells that are left
abbrev pub invariant-loop-number : goal.invariant-loop-number
invariant-loop-number l = l.text.items
    ++ cells_text l.world l.number (drop l.number (machine_of l.world).account.cells)
    ≡ cells_text l.world 0 (machine_of l.world).account.cells
