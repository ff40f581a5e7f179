use Rattle.exploring_together.proofs.Deciding.{same_by_key}
use Rattle.exploring_together.proofs.outcomes.has_outcome.Goals as goal

pub returns : goal.returns
returns c =
    rw (← c.found.view_is) (same_by_key c.found.inside.outcome c.args.wanted.now c.is_same.result c.is_same.ensures)
