use Rattle.std.proofs.Common.{◌∙◌, sym}
use Rattle.instructions.proofs.CellsFound.{is_there}
use Rattle.instructions.proofs.heaps.Heap.birth_in.Goals as goal

pub returns-in-Taken-clause-there : goal.returns-in-Taken-clause-there
returns-in-Taken-clause-there c =
    let a = c.self.inside in
    rw (← c.self.view_is)
    (is_there a.account.cells a.cells.objects c.args.cell c.in-Taken.birth c.in-Taken.colour
    c.self.invariant.agree.taken (sym c.cell.ensures ∙ c.in-Taken.is))
