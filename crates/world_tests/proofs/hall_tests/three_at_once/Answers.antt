use Rattle.board.specs.Seats.{IsSeatOf}
use Rattle.hall.proofs.SeatsHome.{all_but_last, of_last}
use Rattle.world_tests.proofs.hall_tests.three_at_once.Goals as goal

pub invariant_of-new : goal.invariant_of-new
invariant_of-new g c = record {
  mine = of_last (IsSeatOf c.in_ok-board.board) _ _ _ c.in-Some.ensures.items
      c.in_ok-board.ensures.seats;
}

pub drive-requires-clause-seats : goal.drive-requires-clause-seats
drive-requires-clause-seats g c = λ κs alive. all_but_last (IsSeatOf c.in_ok-board.board) _ _ _ c.in-Some.ensures.items
    c.in_ok-board.ensures.seats
