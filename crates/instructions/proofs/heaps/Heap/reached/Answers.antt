use Rattle.join.specs.OnCells.{nobody}
use Rattle.instructions.specs.Shown.{object_shown}
use Rattle.instructions.proofs.ReachedLemmas.{enough_references}
use Rattle.instructions.proofs.heaps.Heap.reached.Goals as goal

pub reached-requires : goal.reached-requires
reached-requires c =
    let a = c.self.inside in
    enough_references (object_shown c.args.program.now) nobody a.account.cells a.cells.objects c.cells.result
    c.self.invariant.agree.taken c.cells.ensures.count
