use Rattle.std.proofs.Common.{◌≡◌}
use Rattle.board.specs.Rule.{LooksRound}
use Rattle.board.proofs.boards.Board.look_round.Given as goal

abbrev pub invariant-loop-worker : goal.invariant-loop-worker
invariant-loop-worker l = record {
  table : l.seat.table_id ≡ l.fn.seat.table_id;
  slots : l.seat.me.1 ≡ l.fn.seat.me.1;
  view : LooksRound l.worker l.fn.seat.me.0 l.seat.me.0;
}
