use Rattle.hall.proofs.SeatsHome.{new_seats}
use Rattle.commands.proofs.carriers.board_of.Goals as goal

pub returns-in-Ok-clause-seats : goal.returns-in-Ok-clause-seats
returns-in-Ok-clause-seats c = new_seats _ _ c.in-Ok.ensures.seats
