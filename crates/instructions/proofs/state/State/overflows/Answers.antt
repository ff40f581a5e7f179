use Rattle.std.proofs.Common.{Some, None}
use Rattle.instructions.proofs.Waiting.{overflows_shown}
use Rattle.instructions.proofs.state.State.overflows.Goals as goal

pub returns-in-Some : goal.returns-in-Some
returns-in-Some c =
    rw (c.output.ensures, ← c.self.view_is)
    (overflows_shown c.self.inside c.self.invariant c.args.thread c.frames.result.now
    (rw (← c.self.view_is) at c.frames.ensures) (Some c.in-Some.length) c.in-Some.ensures.length)

pub returns-in-None : goal.returns-in-None
returns-in-None c =
    rw (← c.self.view_is)
    (overflows_shown c.self.inside c.self.invariant c.args.thread c.frames.result.now
    (rw (← c.self.view_is) at c.frames.ensures) None c.in-None.ensures.length)
