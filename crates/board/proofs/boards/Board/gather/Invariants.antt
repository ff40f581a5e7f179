use Rattle.std.proofs.Common.{◌≡◌, length}
use Rattle.board.specs.Gathering.{IsGathered}
use Rattle.board.proofs.Returned.{AreFirst}
use Rattle.board.proofs.boards.Board.gather.Given as goal

abbrev pub invariant-loop-seat : goal.invariant-loop-seat
invariant-loop-seat l = record {
  table : l.all.table_id ≡ l.self.table.shared.table_id;
  first : AreFirst l.seats.items l.fn.seats.items;
  gathered : IsGathered (length l.seats.items) l.fn.seats.items l.all.me.0;
}

abbrev pub decreases-loop-seat : goal.decreases-loop-seat
decreases-loop-seat l = goal.left-loop-seat l
