use Rattle.instructions.proofs.CellsFound.{found_there}
use Rattle.instructions.proofs.heaps.Heap.cell_of.Goals as goal

pub returns-clause-there : goal.returns-clause-there
returns-clause-there c =
    let a = c.self.inside in
    let found = c.first_holding.ensures in
    rw (← c.self.view_is) (found_there a.account.cells a.cells.objects c.args.birth c.first_holding.result
    c.self.invariant.agree.taken (rw (← c.self.view_is) at found))
