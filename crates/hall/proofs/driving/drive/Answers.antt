use Rattle.std.proofs.Common.{arith}
use Rattle.board.specs.Seats.{IsSameSeat}
use Rattle.hall.specs.Homes.{IsLater}
use Rattle.hall.proofs.Pairs.{and_last, as_long}
use Rattle.hall.proofs.driving.drive.Goals as goal

pub returns-clause-shares : goal.returns-clause-shares
returns-clause-shares g c =
    and_last IsLater _ _ _ _ _ _ c.in-Some.ensures.items c.in_ok-shares-2.ensures.shares c.in_ok-shares.ensures.1.0
    c.in_ok-shares.ensures.1.1.1.later

pub returns-clause-seats : goal.returns-clause-seats
returns-clause-seats g c =
    and_last IsSameSeat _ _ _ _ _ _ c.in-Some-pop.ensures.items c.in_ok-shares-2.ensures.seats
    c.in_ok-shares.ensures.1.1.0 c.in_ok-shares.ensures.1.1.1.same

pub returns-clause-all : goal.returns-clause-all
returns-clause-all g c =
    let home = c.in_ok-shares-2.shares.ok.0 in
    let all = c.args.shares.ok.0 in
    let same = as_long IsLater _ _ (returns-clause-shares g c) in
    omega arith
