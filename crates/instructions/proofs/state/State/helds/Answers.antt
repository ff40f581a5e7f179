use Rattle.std.proofs.Common.{◌≡◌, ◌<◌, ◌∙◌, arith, length}
use Rattle.instructions.proofs.HeldShown.{next_held}
use Rattle.instructions.proofs.state.State.helds.Goals as goal

pub loop-cell-preserved : goal.loop-cell-preserved
loop-cell-preserved c =
    let cells = c.args.self.now.machine.account.cells in
    let count : c.count-count.result ≡ length cells = rw (← c.self.view_is) c.count-count.ensures in
    let test = c.loop-cell-test.true in
    let below : c.loop-cell.cell < length cells = omega (arith, test, count) in
    next_held c.args.self.now.machine cells c.loop-cell.cell c.in_ok-held.field-0
    c.loop-cell.views.items c.push.new.self.items below c.in_ok-held.ensures c.in_ok-push.ensures.items
    ∙ c.loop-cell.invariant
