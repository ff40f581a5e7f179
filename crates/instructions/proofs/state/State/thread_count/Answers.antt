use Rattle.std.proofs.Common.{◌∙◌, sym}
use Rattle.instructions.proofs.Waiting.{counted_now}
use Rattle.instructions.proofs.state.State.thread_count.Goals as goal

pub returns : goal.returns
returns c = rw (← c.self.view_is) (c.count.ensures ∙ sym (counted_now c.self.inside))
