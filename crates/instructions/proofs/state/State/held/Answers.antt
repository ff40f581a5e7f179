use Rattle.std.proofs.Common.{◌≡◌, ◌∙◌, IfOk, Some, false, subst, suc, sym, true}
use Rattle.model.specs.Collector.Reached.{is_reached}
use Rattle.model.specs.Collector.Table.{cell_at}
use Rattle.join.specs.TurnsOnCells.{CellMachine}
use Rattle.instructions.specs.HeldOnCells.{birth_if}
use Rattle.instructions.specs.Loaded.{state_shown}
use Rattle.instructions.proofs.HeldShown.{free_held, has_reference, marked_as, taken_held}
use Rattle.instructions.proofs.state.State.held.Goals as goal

pub returns-in-None : goal.returns-in-None
returns-in-None c =
    let a = c.self.inside in
    let x : CellMachine = state_shown a.program a.machine a.threads a.fault a.rows in
    rw (← c.self.view_is) (free_held x c.args.cell (cell_at x.account.cells c.args.cell) (sym c.birth_in.ensures.birth
    ∙ c.in-None.is))

pub returns-then-is_marked : goal.returns-then-is_marked
returns-then-is_marked c =
    let a = c.self.inside in
    let x : CellMachine = state_shown a.program a.machine a.threads a.fault a.rows in
    let there = has_reference a.program a.machine.heap.objects c.args.cell c.in-Some.ensures.there in
    let mark : is_reached x.world (suc c.args.cell) ≡ true =
    sym (marked_as x.world c.args.marks.now c.args.cell (rw (← c.self.view_is) at c.requires) there)
    ∙ sym c.is_marked.ensures ∙ c.if-is_marked.true in
    let taken : birth_if (cell_at x.account.cells c.args.cell) ≡ Some c.in-Some.birth = sym c.birth_in.ensures.birth
    ∙ c.in-Some.is in
    rw (← c.self.view_is)
    (subst (λ o. IfOk c.held_view.result (λ view. view ≡ o))
    (taken_held x c.args.cell (cell_at x.account.cells c.args.cell) c.in-Some.birth true taken (sym mark))
    c.held_view.ensures)

pub returns-else-is_marked : goal.returns-else-is_marked
returns-else-is_marked c =
    let a = c.self.inside in
    let x : CellMachine = state_shown a.program a.machine a.threads a.fault a.rows in
    let there = has_reference a.program a.machine.heap.objects c.args.cell c.in-Some.ensures.there in
    let mark : is_reached x.world (suc c.args.cell) ≡ false =
    sym (marked_as x.world c.args.marks.now c.args.cell (rw (← c.self.view_is) at c.requires) there)
    ∙ sym c.is_marked.ensures ∙ c.if-is_marked.false in
    let taken : birth_if (cell_at x.account.cells c.args.cell) ≡ Some c.in-Some.birth = sym c.birth_in.ensures.birth
    ∙ c.in-Some.is in
    rw (← c.self.view_is) (taken_held x c.args.cell (cell_at x.account.cells c.args.cell) c.in-Some.birth false taken
    (sym mark))
