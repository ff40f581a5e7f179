use Rattle.board.specs.Seats.{IsSeatOf, IsSameSeat}
use Rattle.hall.specs.Homes.{IsLater}
use Rattle.hall.proofs.carrying.carry.Given as goal

abbrev pub invariant-loop-round : goal.invariant-loop-round
invariant-loop-round g l = record {
  mine : IsSeatOf l.board l.seat;
  later : IsLater l.initial.share l.share;
  same : IsSameSeat l.initial.seat l.seat;
}
