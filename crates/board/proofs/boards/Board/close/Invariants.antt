use Rattle.std.proofs.Common.{◌≡◌, length}
use Rattle.board.specs.Gathering.{IsGathered}
use Rattle.board.proofs.Returned.{AreCounted}
use Rattle.board.proofs.boards.Board.close.Given as goal

abbrev pub invariant-loop-worker : goal.invariant-loop-worker
invariant-loop-worker l = record {
  table : l.seat.table_id ≡ l.self.table.shared.table_id;
  all : IsGathered 0 l.fn.seats.items l.seat.me.0;
  long : length l.counts ≡ 9;
  counted : AreCounted l.worker l.fn.seats.items l.counts;
}
