use Rattle.std.proofs.Common.{◌∙◌, ◌+◌, ap, length, ℕ}
use Rattle.board.proofs.SeatLists.{one_more, longer}
use Rattle.board.proofs.boards.Board.new.Goals as goal

pub loop-worker-preserved : goal.loop-worker-preserved
loop-worker-preserved c =
    let seat = c.next_seat in
    let before = c.loop-worker.invariant in
    record {
      table = seat.ensures.table.0 ∙ before.table;
      no_slot = seat.ensures.table.1;
      rights = seat.ensures.rights;
      long = ap length c.in_ok-push.ensures.items ∙ (longer c.loop-worker.seats.items seat.result
          ∙ ap (λ (n : ℕ). n + 1) before.long);
      new = one_more c.in_ok-board.board c.loop-worker.seats.items c.push.new.self.items seat.result
          c.loop-worker.worker c.in_ok-push.ensures.items before.long before.new seat.ensures.seat;
    }
