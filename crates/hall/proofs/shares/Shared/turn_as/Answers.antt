use Rattle.hall.proofs.Rows.{role_takes}
use Rattle.hall.proofs.shares.Shared.turn_as.Goals as goal

pub returns-clause-takes : goal.returns-clause-takes
returns-clause-takes g c = role_takes _ _ _ _ _ c.args.due c.turn_if_known.ensures.world c.turn_if_known.ensures.answer
    c.turn_if_known.ensures.share
