use Rattle.std.proofs.Common.{◌≡◌, [], length}
use Rattle.board.specs.Seats.{AreNewSeats, IsNextSeat}
use Rattle.board.proofs.boards.Board.new.Given as goal

abbrev pub invariant-loop-worker : goal.invariant-loop-worker
invariant-loop-worker l = record {
  table : l.rights.table_id ≡ l.board.table.shared.table_id;
  no_slot : l.rights.me.1 ≡ [];
  rights : IsNextSeat l.board.workers l.worker l.rights.me.0;
  long : length l.seats.items ≡ l.worker;
  new : AreNewSeats l.board l.seats.items;
}
