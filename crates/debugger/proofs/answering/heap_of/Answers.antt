use Rattle.std.proofs.Common.{ap, sym, ◌∙◌}
use Rattle.std.proofs.Common.{◌++◌, ◌+◌, drop, append_assoc, List, ℕ}
use Rattle.debug_texts.specs.Answers.{cell_line}
use Rattle.model.specs.Machines.{machine_of}
use Rattle.debugger.specs.Sessions.{cells_text}
use Rattle.debugger.proofs.HeapText.{first_cell}
use Rattle.debugger.proofs.answering.heap_of.Goals as goal

pub loop-number-preserved : goal.loop-number-preserved
loop-number-preserved c =
    let v = c.args.world.now in
    let cells = (machine_of v).account.cells in
    let n = c.loop-number.number in
    let text = c.loop-number.text.items in
    let line = cell_line n c.in-Some.cell in
    let rest = cells_text v (n + 1) (drop (n + 1) cells) in
    rw c.in_ok-write_cell-in-Some.ensures
    (append_assoc text line rest
    ∙ ap (λ (bs : List ℕ). text ++ bs) (sym (first_cell v cells n c.in-Some.cell (sym c.in-Some.is ∙ c.heap.ensures)))
    ∙ c.loop-number.invariant)
