use Rattle.std.proofs.Common.{◌≡◌, ◌∙◌, IfOk, List, false, suc, subst, sym, true}
use Rattle.model.specs.Collector.Reached.{is_reached}
use Rattle.model.specs.Worlds.{Thread}
use Rattle.join.specs.TurnsOnCells.{CellMachine}
use Rattle.instructions.specs.Loaded.{state_shown}
use Rattle.instructions.specs.Threads.{all_shown}
use Rattle.instructions.proofs.ReachedLemmas.{in_reached_cell, in_unreached_cell, looked_reached}
use Rattle.instructions.proofs.state.State.object.Goals as goal

pub returns-then-branch : goal.returns-then-branch
returns-then-branch c =
    let a = c.self.inside in
    let x : CellMachine = state_shown a.program a.machine a.threads a.fault a.rows in
    let threads : List Thread = all_shown a.program a.threads a.machine.thread a.machine.frames in
    let mark : is_reached x.world (suc c.in-Some.cell) ≡ true =
    sym (looked_reached a.program threads a.machine.slots a.machine.states.items a.machine.heap.objects
    a.machine.output.items a.fault a.rows (suc c.in-Some.cell))
    ∙ sym c.in_ok-is_reached.ensures ∙ c.if-branch.true in
    rw (← c.self.view_is)
    (subst (λ o. IfOk c.object_view.result (λ view. view ≡ o))
    (in_reached_cell x c.args.birth c.in-Some.cell (sym c.cell_of.ensures.cell ∙ c.in-Some.is) mark)
    c.object_view.ensures)

pub returns-else-branch : goal.returns-else-branch
returns-else-branch c =
    let a = c.self.inside in
    let x : CellMachine = state_shown a.program a.machine a.threads a.fault a.rows in
    let threads : List Thread = all_shown a.program a.threads a.machine.thread a.machine.frames in
    let mark : is_reached x.world (suc c.in-Some.cell) ≡ false =
    sym (looked_reached a.program threads a.machine.slots a.machine.states.items a.machine.heap.objects
    a.machine.output.items a.fault a.rows (suc c.in-Some.cell))
    ∙ sym c.in_ok-is_reached.ensures ∙ c.if-branch.false in
    rw (← c.self.view_is) (in_unreached_cell x c.args.birth c.in-Some.cell (sym c.cell_of.ensures.cell ∙ c.in-Some.is)
    mark)
