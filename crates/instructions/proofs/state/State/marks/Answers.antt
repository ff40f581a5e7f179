use Rattle.std.proofs.Common.{◌≡◌, ◌∙◌, List, Some, ap, arith, length, map}
use Rattle.std.proofs.lemmas.List.{length-map}
use Rattle.model.specs.Worlds.{Thread}
use Rattle.instructions.specs.HeldOnCells.{AreMarks}
use Rattle.instructions.specs.Loaded.{state_shown}
use Rattle.instructions.specs.Shown.{object_shown}
use Rattle.instructions.specs.Threads.{all_shown}
use Rattle.instructions.proofs.ReachedLemmas.{if_ok, looked_reached}
use Rattle.instructions.proofs.state.State.marks.Goals as goal

pub reached-requires-clause-running : goal.reached-requires-clause-running
reached-requires-clause-running c = omega (arith, c.self.invariant.started, c.self.invariant.few_threads)

pub returns : goal.returns
returns c =
    let a = c.self.inside in
    let threads : List Thread = all_shown a.program a.threads a.machine.thread a.machine.frames in
    let objects = a.machine.heap.objects in
    rw (← c.self.view_is)
    (if_ok _ (λ marks. AreMarks (state_shown a.program a.machine a.threads a.fault a.rows).world marks.items)
    c.reached.result
    (λ marks are r below. (
    let count : length (map (object_shown a.program) objects)
    ≡ length objects = length-map objects (object_shown a.program) in
    are r (omega (arith, below, count))
    ∙ ap (λ t. Some t) (looked_reached a.program threads a.machine.slots a.machine.states.items objects
    a.machine.output.items a.fault a.rows r)))
    c.reached.ensures)
