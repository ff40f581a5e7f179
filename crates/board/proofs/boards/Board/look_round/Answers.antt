use Rattle.std.proofs.Common.{arith, ◌∙◌}
use Rattle.board.proofs.Looking.{looked, look_keeps_slots}
use Rattle.board.proofs.Visits.{round_goes_on}
use Rattle.board.proofs.Allowed.{look_allowed, stop_look_allowed}
use Rattle.board.proofs.boards.Board.look_round.Goals as goal

pub load-requires : goal.load-requires
load-requires c =
    let words = c.args.self.now.words_are in
    (c.requires, omega arith, stop_look_allowed _ _ c.args.seat.now.id c.args.seat.now.me.0 c.args.seat.now.me.1)

pub load-requires-in-loop-worker : goal.load-requires-in-loop-worker
load-requires-in-loop-worker c =
    let words = c.args.self.now.words_are in
    let inside = c.loop-worker-test.true in
    let seat = c.loop-worker.seat in (
      c.loop-worker.invariant.table ∙ c.requires,
      omega arith,
      look_allowed _ _ seat.id seat.me.0 seat.me.1 c.loop-worker.worker,
    )

pub loop-worker-preserved : goal.loop-worker-preserved
loop-worker-preserved c =
    let reported = c.load-in-loop-worker.ensures in
    let before = c.loop-worker.invariant in
    let w = c.loop-worker.worker in
    record {
      table = reported.0 ∙ before.table;
      slots = look_keeps_slots 0 w _ _ _ reported.2 ∙ before.slots;
      view = round_goes_on w _ _ _ _ before.view (looked 0 w _ _ _ reported.2);
    }
