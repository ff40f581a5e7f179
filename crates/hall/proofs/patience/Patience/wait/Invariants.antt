use Rattle.board.specs.Seats.{IsSeatOf, IsSameSeat}
use Rattle.hall.proofs.patience.Patience.wait.Given as goal

abbrev pub invariant-loop-look : goal.invariant-loop-look
invariant-loop-look l = record {
  mine : IsSeatOf l.board l.seat;
  same : IsSameSeat l.initial.seat l.seat;
}
