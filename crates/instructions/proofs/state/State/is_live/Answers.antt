use Rattle.std.proofs.Common.{◌∙◌}
use Rattle.instructions.proofs.Waiting.{lives_now}
use Rattle.instructions.proofs.state.State.is_live.Goals as goal

pub returns : goal.returns
returns c = rw (← c.self.view_is) (rw c.from.ensures at c.is_live.ensures.lives ∙ lives_now c.self.inside c.args.thread)
