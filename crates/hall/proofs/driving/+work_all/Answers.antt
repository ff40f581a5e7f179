use Rattle.std.proofs.Common.{subst}
use Rattle.board.specs.Seats.{IsSameSeat, IsSeatOf}
use Rattle.hall.specs.Homes.{IsLater}
use Rattle.hall.proofs.Pairs.{and_last}
use Rattle.hall.proofs.SeatsHome.{all_but_last}
use Rattle.hall.proofs.driving.+work_all.Goals as goal

pub returns-clause-shares : goal.returns-clause-shares
returns-clause-shares g t c =
    and_last IsLater _ _ _ _ _ _ c.in-Some.ensures.items c.in_ok-shares-2.ensures.shares c.in_ok-shares.ensures.shares
    (subst (λ (job : _). IsLater job.share c.join-home.result.share) c.in-Ok.ensures c.join-home.ensures.later)

pub returns-clause-seats : goal.returns-clause-seats
returns-clause-seats g t c =
    and_last IsSameSeat _ _ _ _ _ _ c.in-Some-pop.ensures.items c.in_ok-shares-2.ensures.seats
    c.in_ok-shares.ensures.seats
    (subst (λ (job : _). IsSameSeat job.seat c.join-home.result.seat) c.in-Ok.ensures c.join-home.ensures.same)

pub work_all-rest-requires-clause-seats : goal.work_all-rest-requires-clause-seats
work_all-rest-requires-clause-seats g t c κs within =
    all_but_last (λ (seat : _). IsSeatOf c.args.board.now seat) c.args.seats.items c.pop-2.new.self.items
    c.in-Some-pop.seat c.in-Some-pop.ensures.items c.requires.seats
