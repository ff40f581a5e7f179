use Rattle.std.proofs.Common.{arith, ◌∙◌, length-set}
use Rattle.board.proofs.Allowed.{look_allowed}
use Rattle.board.proofs.Looking.{looked}
use Rattle.board.proofs.Returned.{look_gathers, one_counted}
use Rattle.board.proofs.boards.Board.close.Goals as goal

pub load-requires : goal.load-requires
load-requires c =
    let words = c.args.self.words_are in
    let inside = c.loop-worker-test.true in
    let seat = c.loop-worker.seat in
    (c.loop-worker.invariant.table, omega arith, look_allowed _ _ seat.id seat.me.0 seat.me.1 c.loop-worker.worker)

pub loop-worker-preserved : goal.loop-worker-preserved
loop-worker-preserved c =
    let before = c.loop-worker.invariant in
    let w = c.loop-worker.worker in
    let counts = c.loop-worker.counts in
    let look = looked 0 w _ _ _ c.load.ensures.2 in
    let inside = c.loop-worker-test.true in
    let few = c.args.self.few in
    record {
      table = c.load.ensures.0 ∙ before.table;
      all = look_gathers 0 c.args.seats.items w _ _ _ before.all look;
      long = length-set counts w c.load.result ∙ before.long;
      counted = one_counted c.args.seats.items counts w c.load.result _ _
          (let l = before.long in omega arith) before.all look before.counted;
    }
