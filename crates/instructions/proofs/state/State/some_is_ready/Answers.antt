use Rattle.std.proofs.Common.{ap, ◌∙◌}
use Rattle.std.specs.Prelude.{is_some}
use Rattle.instructions.proofs.Waiting.{some_ready}
use Rattle.instructions.proofs.state.State.some_is_ready.Goals as goal

pub returns : goal.returns
returns c =
    c.is_some.ensures ∙ ap is_some c.ready_among.ensures
    ∙ rw (← c.self.view_is) (some_ready c.self.inside c.count.result c.count.ensures)
